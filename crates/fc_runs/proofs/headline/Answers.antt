use Rattle.fc_runs.proofs.HeadlineLemmas.{headline_law}
use Rattle.fc_runs.proofs.headline.Goals as goal

pub returns : goal.returns
returns c = headline_law
