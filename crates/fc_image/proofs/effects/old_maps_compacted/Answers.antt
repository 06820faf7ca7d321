use Rattle.fc_image.proofs.lemmas.effects.CompactedLemmas.{old_map_compacted_law}
use Rattle.fc_image.proofs.effects.old_maps_compacted.Goals as goal

pub returns : goal.returns
returns c = old_map_compacted_law
