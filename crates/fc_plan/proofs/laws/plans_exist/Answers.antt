use Rattle.fc_plan.proofs.Shorts.{suffices}
use Rattle.fc_plan.proofs.laws.plans_exist.Goals as goal

pub returns : goal.returns
returns c = suffices
