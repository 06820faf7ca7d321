use Rattle.fc_edits.proofs.lemmas.GrownAdditionLemmas.{grown_addition_law}
use Rattle.fc_edits.proofs.grown_addition.Goals as goal

pub returns : goal.returns
returns c = grown_addition_law
