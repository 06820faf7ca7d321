use Rattle.std.proofs.Common.{◌≡◌, ◌+◌, ◌*◌, ◌++◌, take}
use Rattle.std.specs.List.{flat_map}
use Rattle.fc_dirs.specs.SmallBytes.{entry_bytes}
use Rattle.fc_smalldir.proofs.entries.put_entries.Given as goal

abbrev pub invariant-loop-e : goal.invariant-loop-e
invariant-loop-e l =
    (l.end ≡ l.at + 26 * l.e-index) × (take l.end l.b ≡ take l.at l.initial.b ++ flat_map (entry_bytes l.form) (take l.e-index l.entries))
