use Rattle.fc_laws.proofs.lemmas.takeover.ApartLemmas.{places_law}
use Rattle.fc_laws.proofs.takeover.places.Goals as goal

pub returns : goal.returns
returns c = places_law
