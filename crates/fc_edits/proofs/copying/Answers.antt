use Rattle.fc_edits.proofs.lemmas.CopyingLemmas.{copying_law}
use Rattle.fc_edits.proofs.copying.Goals as goal

pub returns : goal.returns
returns c = copying_law
