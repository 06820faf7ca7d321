use Rattle.fc_image.specs.Layout.{dir_form}
use Rattle.fc_oldlaws.specs.moves.After.{start_after}
use Rattle.fc_space.specs.Space.{layout_of}
use Rattle.fc_tree.specs.Nodes.{nodes_of}
use Rattle.std.proofs.Common.{◌∙◌}
use Rattle.fc_volume.proofs.NumbersLemmas.{addressed_next}
use Rattle.fc_volume.proofs.old.compacting.nodes.move_nodes.Goals as goal

pub loop-n-preserved : goal.loop-n-preserved
loop-n-preserved c = (
  addressed_next (dir_form (layout_of c.args.space.now)) (start_after c.args.moves.now.before.items c.args.moves.now.after.items) (nodes_of c.args.tree.now) (nodes_of c.loop-n.tree)
      (nodes_of c.move_number.new.tree) c.loop-n.n c.loop-n.invariant.0 c.move_number.ensures.nodes,
  c.move_number.ensures.bound ∙ c.loop-n.invariant.1,
)
