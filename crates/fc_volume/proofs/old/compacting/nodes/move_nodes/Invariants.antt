use Rattle.std.proofs.Common.{◌≡◌}
use Rattle.fc_image.specs.Layout.{dir_form}
use Rattle.fc_oldlaws.specs.moves.After.{start_after}
use Rattle.fc_space.specs.Space.{layout_of}
use Rattle.fc_tree.specs.Nodes.{bound_of, nodes_of}
use Rattle.fc_volume.specs.OldCompacting.{AreAddressed}
use Rattle.fc_volume.proofs.old.compacting.nodes.move_nodes.Given as goal

abbrev pub invariant-loop-n : goal.invariant-loop-n
invariant-loop-n l = AreAddressed (dir_form (layout_of l.space)) (start_after l.moves.before.items l.moves.after.items) (nodes_of l.fn.tree) (nodes_of l.tree) l.n
    × (bound_of l.tree ≡ bound_of l.fn.tree)
