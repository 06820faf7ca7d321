use Rattle.std.proofs.Common.{◌≡◌, ◌<◌, ℕ, false}
use Rattle.fc_tree.specs.Nodes.{nodes_of}
use Rattle.fc_safe.specs.Suits.{is_low_node}
use Rattle.fc_safe.proofs.suitability.has_low_directory.Given as goal

abbrev pub invariant-loop-n : goal.invariant-loop-n
invariant-loop-n l = (k : ℕ) → k < l.n → is_low_node (nodes_of l.tree) k ≡ false
