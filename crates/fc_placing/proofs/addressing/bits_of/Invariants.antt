use Rattle.std.proofs.Common.{◌≡◌, ◌^◌, ◌-◌, min, take}
use Rattle.fc_newmap.specs.Map.{bits_in}
use Rattle.fc_plan.specs.Parts.{fronts}
use Rattle.fc_placing.proofs.addressing.bits_of.Given as goal

abbrev pub invariant-loop-part : goal.invariant-loop-part
invariant-loop-part l = l.bits ≡ min (bits_in (fronts (take l.part-index l.parts))) (2 ^ 64 - 1)
