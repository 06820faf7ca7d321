use Rattle.std.proofs.Common.{Some, take, ◌∷◌}
use Rattle.std.specs.List.{flat_map}
use Rattle.fc_tree.specs.Nodes.{nodes_of}
use Rattle.fc_change.specs.Directories.{HasToldMore, child_of, nodes_told, told_around}
use Rattle.fc_change.proofs.around.tell_entries.Given as goal

abbrev pub invariant-loop-e : goal.invariant-loop-e
invariant-loop-e l =
    HasToldMore (nodes_of l.tree) (Some l.grown) (told_around (l.first ∷ nodes_told l.last) (flat_map (child_of (nodes_of l.tree) l.grown.node) (take l.e-index l.entries))) l.fn.says.items l.says.items
