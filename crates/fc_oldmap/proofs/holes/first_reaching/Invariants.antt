use Rattle.std.proofs.Common.{ℕ, ◌<◌, slice_index_or}
use Rattle.fc_oldmap.specs.declared.Hole.{Hole}
use Rattle.fc_oldmap.specs.Holes.{hole_end}
use Rattle.fc_oldmap.proofs.holes.first_reaching.Given as goal

-- every hole before ends before the unit
abbrev pub invariant-loop-i : goal.invariant-loop-i
invariant-loop-i l = (k : ℕ) (d : Hole) → k < l.i → hole_end (slice_index_or l.holes k d) < l.start
