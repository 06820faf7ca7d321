use Rattle.fc_format.proofs.FreshLemmas.{opens_fresh}
use Rattle.fc_format.proofs.opens.Goals as goal

pub returns : goal.returns
returns c = opens_fresh c.opens.ensures
