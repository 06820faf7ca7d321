use Rattle.std.proofs.Common.{◌≡◌, ◌++◌, Some, map, vec_len}
use Rattle.std.specs.Prelude.{reverse}
use Rattle.fc_tree.proofs.slots.slots_of.Given as goal

abbrev pub invariant-loop-node : goal.invariant-loop-node
invariant-loop-node l = map Some l.fn.nodes.items ≡ map Some l.nodes.items ++ reverse l.slots.items

abbrev pub decreases-loop-node : goal.decreases-loop-node
decreases-loop-node l = vec_len l.nodes
