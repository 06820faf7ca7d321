use Rattle.std.proofs.Common.{◌≡◌}
use Rattle.fc_newmap.specs.Walk.{bits_left}
use Rattle.fc_plan.specs.Supply.{IsWalked, all_holes}
use Rattle.fc_plan.proofs.holes.Holes.meet.Given as goal

abbrev pub invariant-loop-hole : goal.invariant-loop-hole
invariant-loop-hole l = record { walked : IsWalked l.map l.self; same : all_holes l.map l.self ≡ all_holes l.map l.fn.self }

abbrev pub decreases-loop-hole : goal.decreases-loop-hole
decreases-loop-hole l = bits_left l.self.walk
