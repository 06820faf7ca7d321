use Rattle.fc_outcomes.proofs.lemmas.GrownFiledLemmas.{grown_addition_law}
use Rattle.fc_outcomes.proofs.grown_addition.Goals as goal

pub returns : goal.returns
returns c = grown_addition_law
