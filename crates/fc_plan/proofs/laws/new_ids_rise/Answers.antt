use Rattle.fc_plan.proofs.Shorts.{are_new_ids}
use Rattle.fc_plan.proofs.laws.new_ids_rise.Goals as goal

pub returns : goal.returns
returns c = are_new_ids
