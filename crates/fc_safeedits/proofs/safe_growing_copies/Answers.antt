use Rattle.fc_safeedits.proofs.lemmas.SafeGrownCopyingLemmas.{safe_grown_copying_law}
use Rattle.fc_safeedits.proofs.safe_growing_copies.Goals as goal

pub returns : goal.returns
returns c = safe_grown_copying_law
