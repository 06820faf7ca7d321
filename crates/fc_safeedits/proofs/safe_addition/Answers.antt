use Rattle.fc_safeedits.proofs.lemmas.SafeAdditionLemmas.{safe_addition_law}
use Rattle.fc_safeedits.proofs.safe_addition.Goals as goal

pub returns : goal.returns
returns c = safe_addition_law
