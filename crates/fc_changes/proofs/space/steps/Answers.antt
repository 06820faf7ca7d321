use Rattle.fc_changes.proofs.StepsLemmas.{steps_law}
use Rattle.fc_changes.proofs.space.steps.Goals as goal

pub returns : goal.returns
returns c = steps_law
