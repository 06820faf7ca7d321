use Rattle.fc_edits.proofs.lemmas.GrownCopyingLemmas.{grown_copying_law}
use Rattle.fc_edits.proofs.grown_copying.Goals as goal

pub returns : goal.returns
returns c = grown_copying_law
