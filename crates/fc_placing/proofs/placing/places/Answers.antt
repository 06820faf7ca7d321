use Rattle.fc_placing.proofs.PlacedLemmas.{place_law}
use Rattle.fc_placing.proofs.placing.places.Goals as goal

pub returns : goal.returns
returns c = place_law
