use Rattle.std.proofs.Common.{◌≤◌, ◌-◌}
use Rattle.fc_plan.specs.Applied.{is_changed, plan_in}
use Rattle.fc_plan.proofs.Changes.{ArePassed}
use Rattle.fc_plan.proofs.changing.push_changed.Given as goal

abbrev pub invariant-loop-z : goal.invariant-loop-z
invariant-loop-z l = record {
  passed : ArePassed (is_changed l.map (plan_in l.object) (plan_in l.dir) l.gone) l.map.geometry.zones l.z l.fn.zones.items l.zones.items;
  low : l.z ≤ l.map.geometry.zones;
}

abbrev pub decreases-loop-z : goal.decreases-loop-z
decreases-loop-z l = l.all - l.z
