use Rattle.std.proofs.Common.{◌≡◌, ◌<◌, ℕ, false}
use Rattle.fc_dirs.specs.Entries.{is_twin}
use Rattle.fc_smalldir.proofs.entries.first_twin.Given as goal

abbrev pub invariant-loop-i : goal.invariant-loop-i
invariant-loop-i l = (k : ℕ) → k < l.i → is_twin l.entries k ≡ false
