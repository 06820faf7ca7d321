use Rattle.fc_edits.proofs.lemmas.TransferLemmas.{rename_law}
use Rattle.fc_edits.proofs.renaming.Goals as goal

pub returns : goal.returns
returns c = rename_law
