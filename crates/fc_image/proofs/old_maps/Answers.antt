use Rattle.fc_image.proofs.OldMapLemmas.{old_map_law}
use Rattle.fc_image.proofs.old_maps.Goals as goal

pub returns : goal.returns
returns c = old_map_law
