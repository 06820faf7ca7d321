use Rattle.std.proofs.Common.{Some, ◌∷◌}
use Rattle.fc_tree.specs.Nodes.{nodes_of}
use Rattle.fc_change.specs.Directories.{nodes_told}
use Rattle.fc_change.proofs.ToldLemmas.{can_stay}
use Rattle.fc_change.proofs.around.tell_one.Goals as goal

pub stay-requires : goal.stay-requires
stay-requires c = can_stay (Some c.args.grown) (nodes_of c.args.tree.now) (c.args.first ∷ nodes_told c.args.last.now) c.args.n c.if-is_told.ensures c.requires
