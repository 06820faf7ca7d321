use Rattle.std.proofs.Common.{◌≡◌, map, take}
use Rattle.fc_plan.specs.Parts.{part_of}
use Rattle.fc_plan.proofs.plan.as_parts.Given as goal

abbrev pub invariant-loop-zone : goal.invariant-loop-zone
invariant-loop-zone l = l.parts.items ≡ map part_of (take l.zone-index l.fronts)
