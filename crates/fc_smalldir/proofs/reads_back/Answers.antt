use Rattle.fc_smalldir.proofs.ReadBack.{read_back}
use Rattle.fc_smalldir.proofs.reads_back.Goals as goal

pub returns : goal.returns
returns c = read_back
