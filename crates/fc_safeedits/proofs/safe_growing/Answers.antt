use Rattle.fc_safeedits.proofs.lemmas.SafeGrownAdditionLemmas.{safe_grown_addition_law}
use Rattle.fc_safeedits.proofs.safe_growing.Goals as goal

pub returns : goal.returns
returns c = safe_grown_addition_law
