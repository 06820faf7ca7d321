use Rattle.fc_tree.proofs.ChildrenLemmas.{children_law}
use Rattle.fc_tree.proofs.children.Goals as goal

pub returns : goal.returns
returns c = children_law
