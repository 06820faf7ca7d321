use Rattle.std.proofs.Common.{◌≡◌, ◌++◌, take}
use Rattle.std.specs.List.{flat_map}
use Rattle.fc_tree.specs.Nodes.{nodes_of}
use Rattle.fc_change.specs.Directories.{child_of}
use Rattle.fc_safe.proofs.changed.push_children.Given as goal

abbrev pub invariant-loop-e : goal.invariant-loop-e
invariant-loop-e l = l.nodes.items ≡ l.fn.nodes.items ++ flat_map (child_of (nodes_of l.tree) l.n) (take l.e-index l.entries)
