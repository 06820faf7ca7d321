use Rattle.std.proofs.Common.{◌≡◌, ◌++◌, take, drop}
use Rattle.fc_dirs.specs.SmallBytes.{with_tops}
use Rattle.fc_smalldir.proofs.NameLemmas.{AreLow}
use Rattle.fc_smalldir.proofs.entry.with_tops.Given as goal

abbrev pub invariant-loop-c : goal.invariant-loop-c
invariant-loop-c l =
    (with_tops l.fn.attrs l.fn.field ≡ take l.c-index l.c-items ++ with_tops l.tops (drop l.c-index l.c-items)) × AreLow (drop l.c-index l.c-items)
