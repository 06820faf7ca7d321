use Rattle.fc_fit.proofs.JudgedLemmas.{rising_law}
use Rattle.fc_fit.proofs.rising.Goals as goal

pub returns : goal.returns
returns c = rising_law
