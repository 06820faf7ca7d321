use Rattle.fc_change.proofs.PlaceLemmas.{has_sectors}
use Rattle.fc_change.proofs.placing.new.object_place.Goals as goal

pub extents_for-requires-clause-some : goal.extents_for-requires-clause-some
extents_for-requires-clause-some c = has_sectors c.args.map.now c.args.held.now.owners.now c.args.wants.now c.args.placing.now c.address_for-address.result c.requires.placing c.address_for-address.ensures
