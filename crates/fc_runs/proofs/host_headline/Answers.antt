use Rattle.fc_runs.proofs.HostHeadlineLemmas.{host_headline_law}
use Rattle.fc_runs.proofs.host_headline.Goals as goal

pub returns : goal.returns
returns c = host_headline_law
