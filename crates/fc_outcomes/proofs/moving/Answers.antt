use Rattle.fc_outcomes.proofs.lemmas.MovingLemmas.{moving_law}
use Rattle.fc_outcomes.proofs.moving.Goals as goal

pub returns : goal.returns
returns c = moving_law c.reads_back.ensures
