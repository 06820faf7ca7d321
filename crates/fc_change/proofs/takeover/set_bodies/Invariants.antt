use Rattle.std.proofs.Common.{◌≡◌, ◌++◌, length}
use Rattle.std.specs.Vec.Iter.{into_iter_items, into_iter_len}
use Rattle.fc_tree.specs.Nodes.{nodes_of}
use Rattle.fc_change.specs.After.{with_said}
use Rattle.fc_change.proofs.takeover.set_bodies.Given as goal

abbrev pub invariant-loop-said : goal.invariant-loop-said
invariant-loop-said l = (l.yielded ++ into_iter_items l.said-iterator ≡ l.fn.says.items)
    × (nodes_of l.tree ≡ with_said l.yielded (nodes_of l.fn.tree))
    × (into_iter_len l.said-iterator ≡ length (into_iter_items l.said-iterator))
