use Rattle.fc_safeedits.proofs.lemmas.SafeDeletionLemmas.{safe_deletion_law}
use Rattle.fc_safeedits.proofs.safe_deletion.Goals as goal

pub returns : goal.returns
returns c = safe_deletion_law
