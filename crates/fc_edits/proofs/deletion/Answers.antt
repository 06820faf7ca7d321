use Rattle.fc_edits.proofs.lemmas.DeletionLemmas.{deletion_law}
use Rattle.fc_edits.proofs.deletion.Goals as goal

pub returns : goal.returns
returns c = deletion_law
