use Rattle.fc_edits.proofs.lemmas.GrownMovingLemmas.{grown_moving_law}
use Rattle.fc_edits.proofs.grown_moving.Goals as goal

pub returns : goal.returns
returns c = grown_moving_law
