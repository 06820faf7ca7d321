use Rattle.fc_shell.proofs.ReadsLemmas.{reads_law}
use Rattle.fc_shell.proofs.reads.Goals as goal

pub returns : goal.returns
returns c = reads_law c.reading.ensures c.opens.ensures
