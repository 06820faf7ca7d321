use Rattle.fc_safe.proofs.ViewLemmas.{stir_law}
use Rattle.fc_safe.proofs.laws.stirred.Goals as goal

pub returns : goal.returns
returns c = stir_law
