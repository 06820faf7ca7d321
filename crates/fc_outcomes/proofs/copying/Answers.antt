use Rattle.fc_outcomes.proofs.lemmas.CopiedLemmas.{copying_law}
use Rattle.fc_outcomes.proofs.copying.Goals as goal

pub returns : goal.returns
returns c = copying_law
