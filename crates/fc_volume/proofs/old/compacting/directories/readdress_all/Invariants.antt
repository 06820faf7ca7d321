use Rattle.std.proofs.Common.{◌≡◌}
use Rattle.fc_image.specs.Layout.{dir_form}
use Rattle.fc_oldlaws.specs.moves.After.{start_after}
use Rattle.fc_space.specs.Space.{layout_of}
use Rattle.fc_tree.specs.Nodes.{bound_of, nodes_of}
use Rattle.fc_volume.specs.OldCompacting.{AreLeft, AreReaddressed}
use Rattle.fc_volume.proofs.old.compacting.directories.readdress_all.Given as goal

abbrev pub invariant-loop-n : goal.invariant-loop-n
invariant-loop-n l = AreReaddressed (dir_form (layout_of l.space)) (start_after l.moves.before.items l.moves.after.items) (nodes_of l.fn.tree) (nodes_of l.tree) l.spares.items l.n
    × AreLeft (nodes_of l.fn.tree) l.spares.items (bound_of l.fn.tree) l.n
    × (bound_of l.tree ≡ bound_of l.fn.tree)
