use Rattle.std.proofs.Common.{◌≡◌, ◌++◌, length}
use Rattle.std.specs.Vec.Iter.{into_iter_items, into_iter_len}
use Rattle.fc_change.proofs.lists.append.Given as goal

abbrev pub invariant-loop-item : goal.invariant-loop-item
invariant-loop-item g l = (l.yielded ++ into_iter_items l.item-iterator ≡ l.fn.items.items)
    × (l.list.items ≡ l.fn.list.items ++ l.yielded)
    × (into_iter_len l.item-iterator ≡ length (into_iter_items l.item-iterator))
