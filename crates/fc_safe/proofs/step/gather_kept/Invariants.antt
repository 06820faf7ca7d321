use Rattle.std.proofs.Common.{◌≡◌, take}
use Rattle.fc_safe.specs.FirstSpace.{parts_kept}
use Rattle.fc_safe.proofs.step.gather_kept.Given as goal

abbrev pub invariant-loop-plan : goal.invariant-loop-plan
invariant-loop-plan l = l.kept.items ≡ parts_kept (take l.plan-index l.plans) l.gone
