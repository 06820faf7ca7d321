use Rattle.fc_tree.proofs.WalkedLemmas.{sound_law}
use Rattle.fc_tree.proofs.opened.Goals as goal

pub returns : goal.returns
returns c = sound_law
