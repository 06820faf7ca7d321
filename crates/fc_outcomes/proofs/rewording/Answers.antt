use Rattle.fc_outcomes.proofs.lemmas.RewordingLemmas.{rewording_law}
use Rattle.fc_outcomes.proofs.rewording.Goals as goal

pub returns : goal.returns
returns c = rewording_law c.reads_back.ensures
