use Rattle.fc_tree.proofs.TallyLemmas.{tally_law}
use Rattle.fc_tree.proofs.tallied.Goals as goal

pub returns : goal.returns
returns c = tally_law
