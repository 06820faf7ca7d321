use Rattle.fc_runs.proofs.TreeLemmas.{tree_law}
use Rattle.fc_runs.proofs.trees.Goals as goal

pub returns : goal.returns
returns c = tree_law
