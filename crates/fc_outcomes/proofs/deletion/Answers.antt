use Rattle.fc_outcomes.proofs.lemmas.DeletedLemmas.{deletion_law}
use Rattle.fc_outcomes.proofs.deletion.Goals as goal

pub returns : goal.returns
returns c = deletion_law c.reads_back.ensures
