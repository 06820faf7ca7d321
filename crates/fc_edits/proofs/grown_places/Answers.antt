use Rattle.fc_edits.proofs.lemmas.GrownPlaceLemmas.{grown_places_law}
use Rattle.fc_edits.proofs.grown_places.Goals as goal

pub returns : goal.returns
returns c = grown_places_law
