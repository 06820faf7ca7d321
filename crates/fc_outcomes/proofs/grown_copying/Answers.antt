use Rattle.fc_outcomes.proofs.lemmas.GrownCopyingLemmas.{grown_copying_law}
use Rattle.fc_outcomes.proofs.grown_copying.Goals as goal

pub returns : goal.returns
returns c = grown_copying_law
