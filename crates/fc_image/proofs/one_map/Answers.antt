use Rattle.fc_image.proofs.SameMapLemmas.{same_map_law}
use Rattle.fc_image.proofs.one_map.Goals as goal

pub returns : goal.returns
returns c = same_map_law
