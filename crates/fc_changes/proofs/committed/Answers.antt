use Rattle.fc_changes.proofs.CommittedLemmas.{committed_law}
use Rattle.fc_changes.proofs.committed.Goals as goal

pub returns : goal.returns
returns c = committed_law
