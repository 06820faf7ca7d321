use Rattle.std.proofs.Common.{◌≡◌}
use Rattle.fc_oldmap.specs.Holes.{AreOfSomeDisc, tidied}
use Rattle.fc_oldmap.proofs.FitLemmas.{joined_below}
use Rattle.fc_oldmap.proofs.holes.tidy_all.Given as goal

-- with the joins that are left all holes are tidied
abbrev pub invariant-loop-i : goal.invariant-loop-i
invariant-loop-i l = record { of_disc : AreOfSomeDisc l.holes.items; joined : joined_below l.i l.holes.items ≡ tidied l.fn.holes.items }

abbrev pub decreases-loop-i : goal.decreases-loop-i
decreases-loop-i l = l.i
