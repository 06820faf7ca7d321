use Rattle.fc_fit.proofs.TreeLemmas.{makes_law}
use Rattle.fc_fit.proofs.makes.Goals as goal

pub returns : goal.returns
returns c = makes_law
