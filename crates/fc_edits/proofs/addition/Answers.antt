use Rattle.fc_edits.proofs.lemmas.AdditionLawLemmas.{addition_law}
use Rattle.fc_edits.proofs.addition.Goals as goal

pub returns : goal.returns
returns c = addition_law
