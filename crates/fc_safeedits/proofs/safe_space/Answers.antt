use Rattle.fc_safeedits.proofs.lemmas.SafeSpaceLemmas.{safe_space_law}
use Rattle.fc_safeedits.proofs.safe_space.Goals as goal

pub returns : goal.returns
returns c = safe_space_law
