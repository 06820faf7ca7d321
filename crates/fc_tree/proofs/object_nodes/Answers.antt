use Rattle.fc_tree.proofs.TreeLemmas.{node_of_object}
use Rattle.fc_tree.proofs.object_nodes.Goals as goal

pub returns : goal.returns
returns c = λ image layout listings o path sound at same. node_of_object image layout listings sound path o at same
