use Rattle.fc_edits.proofs.lemmas.NewPlaceLemmas.{new_places_law}
use Rattle.fc_edits.proofs.new_places.Goals as goal

pub returns : goal.returns
returns c = new_places_law
