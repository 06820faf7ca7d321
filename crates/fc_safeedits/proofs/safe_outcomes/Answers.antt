use Rattle.fc_safeedits.proofs.lemmas.SafeOutcomeLemmas.{safe_outcome_law}
use Rattle.fc_safeedits.proofs.safe_outcomes.Goals as goal

pub returns : goal.returns
returns c = safe_outcome_law
