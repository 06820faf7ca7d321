use Rattle.fc_oldmap.proofs.BackLemmas.{reads_back}
use Rattle.fc_oldmap.proofs.reads_back.Goals as goal

pub returns : goal.returns
returns c = reads_back
