use Rattle.std.proofs.Common.{◌≡◌, ◌<◌, ℕ, false, Some}
use Rattle.fc_tree.specs.declared.node.Node.{Node}
use Rattle.fc_tree.specs.Slots.{is_child, slot_at}
use Rattle.fc_tree.proofs.index.child_among.Given as goal

abbrev pub invariant-loop-n : goal.invariant-loop-n
invariant-loop-n l = (j : ℕ) (m : Node) → j < l.n → slot_at l.slots j ≡ Some m → is_child l.dir l.name (j, m) ≡ false
