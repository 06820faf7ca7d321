use Rattle.fc_shell.proofs.SpaceLemmas.{spares_law}
use Rattle.fc_shell.proofs.spares.spared.Goals as goal

pub returns : goal.returns
returns c = spares_law
