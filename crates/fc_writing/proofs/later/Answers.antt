use Rattle.fc_writing.proofs.LaterLemmas.{later_law}
use Rattle.fc_writing.proofs.later.Goals as goal

pub returns : goal.returns
returns c = later_law
