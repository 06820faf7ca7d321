use Rattle.fc_zone.proofs.ReadingLemmas.{runs_of_zone}
use Rattle.fc_zone.proofs.laws.one_list_of_runs.Goals as goal

pub returns : goal.returns
returns c = runs_of_zone
