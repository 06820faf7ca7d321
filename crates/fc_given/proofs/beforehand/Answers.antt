use Rattle.fc_given.proofs.MapLemmas.{beforehand_law}
use Rattle.fc_given.proofs.beforehand.Goals as goal

pub returns : goal.returns
returns c = beforehand_law
