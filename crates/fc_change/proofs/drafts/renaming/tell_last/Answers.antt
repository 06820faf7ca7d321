use Rattle.fc_tree.specs.Nodes.{nodes_of}
use Rattle.fc_change.proofs.ToldLemmas.{can_leave, can_turn}
use Rattle.fc_change.proofs.drafts.renaming.tell_last.Goals as goal

pub turn-requires : goal.turn-requires
turn-requires c = can_turn c.args.grown (nodes_of c.args.held.now.tree.now) c.args.renaming c.args.name.now c.if-is_directory.ensures c.requires

pub leave-requires : goal.leave-requires
leave-requires c = can_leave c.args.grown (nodes_of c.args.held.now.tree.now) c.args.renaming c.args.name.now c.if-holder-target.true c.requires
