use Rattle.std.proofs.Common.{◌≡◌, ◌++◌, map, take}
use Rattle.fc_plan.specs.declared.plan.Part.{Part}
use Rattle.fc_safe.proofs.zones.push_zones.Given as goal

abbrev pub invariant-loop-part : goal.invariant-loop-part
invariant-loop-part l = l.zones.items ≡ l.fn.zones.items ++ map (λ (p : Part). p.zone) (take l.part-index l.parts)
