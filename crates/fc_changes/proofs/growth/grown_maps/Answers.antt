use Rattle.fc_changes.proofs.lemmas.growth.RootLemmas.{grown_maps_law}
use Rattle.fc_changes.proofs.growth.grown_maps.Goals as goal

pub returns : goal.returns
returns c = grown_maps_law
