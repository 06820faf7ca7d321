use Rattle.fc_edits.proofs.lemmas.GrowingLawLemmas.{growing_law}
use Rattle.fc_edits.proofs.growing.Goals as goal

pub returns : goal.returns
returns c = growing_law
