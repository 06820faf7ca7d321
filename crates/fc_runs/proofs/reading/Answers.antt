use Rattle.fc_runs.proofs.ReadLemmas.{read_law}
use Rattle.fc_runs.proofs.reading.Goals as goal

pub returns : goal.returns
returns c = read_law
