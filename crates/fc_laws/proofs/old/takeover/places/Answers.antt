use Rattle.fc_laws.proofs.lemmas.old.takeover.ApartLemmas.{places_law}
use Rattle.fc_laws.proofs.old.takeover.places.Goals as goal

pub returns : goal.returns
returns c = places_law
