use Rattle.fc_safeedits.proofs.lemmas.SafeRewordingLemmas.{safe_rewording_law}
use Rattle.fc_safeedits.proofs.safe_rewording.Goals as goal

pub returns : goal.returns
returns c = safe_rewording_law
