use Rattle.std.proofs.Common.{◌≡◌, ◌++◌, take}
use Rattle.fc_safe.specs.Zones.{zones_of_plans}
use Rattle.fc_safe.proofs.zones.push_plans.Given as goal

abbrev pub invariant-loop-plan : goal.invariant-loop-plan
invariant-loop-plan l = l.zones.items ≡ l.fn.zones.items ++ zones_of_plans (take l.plan-index l.plans)
