use Rattle.fc_edits.proofs.lemmas.MovingLemmas.{moving_law}
use Rattle.fc_edits.proofs.moving.Goals as goal

pub returns : goal.returns
returns c = moving_law
