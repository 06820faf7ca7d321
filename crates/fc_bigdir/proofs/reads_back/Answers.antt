use Rattle.fc_bigdir.proofs.ReadBack.{read_back}
use Rattle.fc_bigdir.proofs.reads_back.Goals as goal

pub returns : goal.returns
returns c = read_back
