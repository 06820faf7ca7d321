use Rattle.std.proofs.Common.{◌≡◌, take}
use Rattle.std.specs.List.{All}
use Rattle.fc_dirs.specs.Small.{FitsSmall, small_entries}
use Rattle.fc_smalldir.proofs.entries.read_entries.Given as goal

abbrev pub invariant-loop-i : goal.invariant-loop-i
invariant-loop-i l = (l.entries.items ≡ take l.i (small_entries l.form l.b)) × All (FitsSmall l.form) l.entries.items
