use Rattle.fc_tree.proofs.NumberLemmas.{numbers_law}
use Rattle.fc_tree.proofs.numbered.Goals as goal

pub returns : goal.returns
returns c = numbers_law
