use Rattle.fc_tree.proofs.FindLemmas.{find_law}
use Rattle.fc_tree.proofs.finds.Goals as goal

pub returns : goal.returns
returns c = find_law
