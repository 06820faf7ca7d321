use Rattle.fc_tree.specs.Nodes.{nodes_of}
use Rattle.fc_change.proofs.ToldLemmas.{can_enter, can_rename}
use Rattle.fc_change.proofs.drafts.renaming.tell_holder.Goals as goal

pub rename-requires : goal.rename-requires
rename-requires c = can_rename c.args.grown (nodes_of c.args.held.now.tree.now) c.args.renaming c.args.e c.if-holder-target.true c.requires

pub enter-requires : goal.enter-requires
enter-requires c = can_enter c.args.grown (nodes_of c.args.held.now.tree.now) c.args.renaming c.args.e c.if-holder-target.false c.requires
