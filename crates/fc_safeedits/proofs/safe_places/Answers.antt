use Rattle.fc_safeedits.proofs.lemmas.SafePlacesLemmas.{safe_places_law}
use Rattle.fc_safeedits.proofs.safe_places.Goals as goal

pub returns : goal.returns
returns c = safe_places_law
