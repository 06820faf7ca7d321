use Rattle.fc_edits.proofs.lemmas.ViewLemmas.{view_law}
use Rattle.fc_edits.proofs.views.Goals as goal

pub returns : goal.returns
returns c = view_law
