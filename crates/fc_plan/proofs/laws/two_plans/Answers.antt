use Rattle.fc_plan.proofs.Two.{two_plans}
use Rattle.fc_plan.proofs.laws.two_plans.Goals as goal

pub returns : goal.returns
returns c = two_plans
