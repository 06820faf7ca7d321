use Rattle.fc_plan.proofs.Plans.{cut_of_plan}
use Rattle.fc_plan.proofs.laws.cut_plans.Goals as goal

pub returns : goal.returns
returns c = λ g holes parts bits plan. cut_of_plan g holes bits parts plan
