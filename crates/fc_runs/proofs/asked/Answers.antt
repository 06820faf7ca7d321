use Rattle.fc_runs.proofs.AskedLemmas.{asked_law}
use Rattle.fc_runs.proofs.asked.Goals as goal

pub returns : goal.returns
returns c = asked_law
