use Rattle.std.proofs.Common.{◌≡◌, ◌-◌, take}
use Rattle.fc_newmap.specs.Map.{bits_in}
use Rattle.fc_plan.proofs.holes.missing_after.Given as goal

abbrev pub invariant-loop-run : goal.invariant-loop-run
invariant-loop-run l = l.missing ≡ l.bits - bits_in (take l.run-index l.holes)
