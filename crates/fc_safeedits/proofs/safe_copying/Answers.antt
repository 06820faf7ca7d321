use Rattle.fc_safeedits.proofs.lemmas.SafeCopyingLemmas.{safe_copying_law}
use Rattle.fc_safeedits.proofs.safe_copying.Goals as goal

pub returns : goal.returns
returns c = safe_copying_law
