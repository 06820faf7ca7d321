use Rattle.fc_tree.proofs.HeldLemmas.{counts_law}
use Rattle.fc_tree.proofs.counted.Goals as goal

pub returns : goal.returns
returns c = counts_law
