use Rattle.fc_safeedits.proofs.lemmas.SafeMovingLemmas.{safe_moving_law}
use Rattle.fc_safeedits.proofs.safe_moving.Goals as goal

pub returns : goal.returns
returns c = safe_moving_law
