use Rattle.fc_outcomes.proofs.lemmas.GrownMovingLemmas.{grown_moving_law}
use Rattle.fc_outcomes.proofs.grown_moving.Goals as goal

pub returns : goal.returns
returns c = grown_moving_law
