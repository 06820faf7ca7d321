use Rattle.fc_writing.proofs.LeavesLemmas.{leaves_law}
use Rattle.fc_writing.proofs.leaves.Goals as goal

pub returns : goal.returns
returns c = leaves_law
