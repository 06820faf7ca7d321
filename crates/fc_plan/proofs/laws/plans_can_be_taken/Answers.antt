use Rattle.fc_plan.proofs.Two.{can_take}
use Rattle.fc_plan.proofs.laws.plans_can_be_taken.Goals as goal

pub returns : goal.returns
returns c = can_take
