use Rattle.fc_safeedits.proofs.lemmas.SafeGrownMovingLemmas.{safe_grown_moving_law}
use Rattle.fc_safeedits.proofs.safe_growing_moves.Goals as goal

pub returns : goal.returns
returns c = safe_grown_moving_law
