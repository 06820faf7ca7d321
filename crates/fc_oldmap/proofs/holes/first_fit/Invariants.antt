use Rattle.std.proofs.Common.{ℕ, ◌<◌, slice_index_or}
use Rattle.fc_oldmap.specs.declared.Hole.{Hole}
use Rattle.fc_oldmap.proofs.holes.first_fit.Given as goal

-- no hole before is long enough
abbrev pub invariant-loop-i : goal.invariant-loop-i
invariant-loop-i l = (k : ℕ) (d : Hole) → k < l.i → (slice_index_or l.holes k d).len < l.n
