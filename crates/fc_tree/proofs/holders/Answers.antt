use Rattle.fc_tree.proofs.HeldLemmas.{holder_law}
use Rattle.fc_tree.proofs.holders.Goals as goal

pub returns : goal.returns
returns c = holder_law
