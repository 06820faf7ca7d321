use Rattle.std.proofs.Common.{◌≤◌, take}
use Rattle.fc_newmap.specs.Map.{runs_of}
use Rattle.fc_plan.specs.Beginnings.{bits_of_ids}
use Rattle.fc_plan.proofs.beginnings.bits_of_all.Given as goal

abbrev pub invariant-loop-i : goal.invariant-loop-i
invariant-loop-i l = bits_of_ids (take l.i l.fn.ids) (runs_of l.fn.map l.z) ≤ l.bits
