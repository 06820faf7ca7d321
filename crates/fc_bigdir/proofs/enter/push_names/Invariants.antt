use Rattle.std.proofs.Common.{◌≡◌, ◌++◌, take}
use Rattle.fc_dirs.specs.Big.{packed_heap}
use Rattle.fc_bigdir.proofs.enter.push_names.Given as goal

abbrev pub invariant-loop-e : goal.invariant-loop-e
invariant-loop-e l = l.heap.items ≡ l.initial.heap.items ++ packed_heap (take l.e-index l.entries)
