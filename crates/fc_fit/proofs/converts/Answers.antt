use Rattle.fc_fit.proofs.DoingLemmas.{converts_law}
use Rattle.fc_fit.proofs.converts.Goals as goal

pub returns : goal.returns
returns c = converts_law c.opens.ensures
