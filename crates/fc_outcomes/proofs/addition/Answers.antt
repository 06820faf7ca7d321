use Rattle.fc_outcomes.proofs.lemmas.AdditionLemmas.{addition_law}
use Rattle.fc_outcomes.proofs.addition.Goals as goal

pub returns : goal.returns
returns c = addition_law c.reads_back.ensures
