use Rattle.fc_tree.proofs.SoundLemmas.{children_stored}
use Rattle.fc_tree.proofs.stored_entries.Goals as goal

pub returns : goal.returns
returns c = λ layout listings l sound at. children_stored layout listings sound l at
