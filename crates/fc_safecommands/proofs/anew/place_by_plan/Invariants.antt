use Rattle.std.proofs.Common.{◌≡◌, take, None}
use Rattle.fc_safecommands.specs.Anew.{plan_for}
use Rattle.fc_safecommands.proofs.anew.place_by_plan.Given as goal

abbrev pub invariant-loop-plan : goal.invariant-loop-plan
invariant-loop-plan l = plan_for (take l.plan-index l.plans) l.own.id ≡ None
