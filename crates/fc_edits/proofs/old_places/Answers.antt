use Rattle.fc_edits.proofs.lemmas.OldPlaceLemmas.{old_places_of}
use Rattle.fc_edits.proofs.old_places.Goals as goal

pub returns : goal.returns
returns c = old_places_of
