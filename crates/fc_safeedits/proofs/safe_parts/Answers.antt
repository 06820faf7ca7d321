use Rattle.fc_safeedits.proofs.lemmas.SafePartsLemmas.{safe_parts_law}
use Rattle.fc_safeedits.proofs.safe_parts.Goals as goal

pub returns : goal.returns
returns c = safe_parts_law
