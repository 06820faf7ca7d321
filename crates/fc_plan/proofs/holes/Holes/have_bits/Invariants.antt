use Rattle.std.proofs.Common.{◌≡◌, ◌-◌, List}
use Rattle.fc_newmap.specs.Map.{ZoneRun, bits_in}
use Rattle.fc_newmap.specs.Walk.{StandsBefore, bits_left, holes_in}
use Rattle.fc_plan.specs.Supply.{all_holes}
use Rattle.fc_plan.proofs.holes.Holes.have_bits.Given as goal

abbrev pub invariant-loop-missing : goal.invariant-loop-missing
invariant-loop-missing l = (left : List ZoneRun) × StandsBefore l.map left l.walk × (l.fn.bits - bits_in (all_holes l.map l.self) ≡ l.missing - bits_in (holes_in left))

abbrev pub decreases-loop-missing : goal.decreases-loop-missing
decreases-loop-missing l = bits_left l.walk
