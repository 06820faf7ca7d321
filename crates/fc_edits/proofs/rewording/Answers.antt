use Rattle.fc_edits.proofs.lemmas.RewordingLemmas.{rewording_law}
use Rattle.fc_edits.proofs.rewording.Goals as goal

pub returns : goal.returns
returns c = rewording_law
