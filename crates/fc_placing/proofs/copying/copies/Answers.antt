use Rattle.fc_placing.proofs.CopyingLemmas.{copies_law}
use Rattle.fc_placing.proofs.copying.copies.Goals as goal

pub returns : goal.returns
returns c = copies_law
