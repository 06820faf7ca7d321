use Rattle.fc_tree.proofs.HeldLemmas.{nodes_law}
use Rattle.fc_tree.proofs.nodes_tell.Goals as goal

pub returns : goal.returns
returns c = nodes_law
