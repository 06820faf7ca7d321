use Rattle.std.proofs.Common.{◌≡◌, ◌+◌, ◌-◌, ◌*◌, length, drop}
use Rattle.fc_dirs.specs.Small.{entries_in, small_entries}
use Rattle.fc_smalldir.proofs.entries.count_entries.Given as goal

abbrev pub invariant-loop-i : goal.invariant-loop-i
invariant-loop-i l =
    length (small_entries l.fn.form l.b) ≡ l.i + length (entries_in (l.places - l.i) l.fn.form (drop (5 + 26 * l.i) l.b))
