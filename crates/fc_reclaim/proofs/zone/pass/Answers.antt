use Rattle.fc_newmap.proofs.ComposeLemmas.{edit_none}
use Rattle.fc_reclaim.proofs.zone.pass.Goals as goal

pub returns-then-not-goes-clause-edit : goal.returns-then-not-goes-clause-edit
returns-then-not-goes-clause-edit c = edit_none c.args.map.now c.args.z c.requires.map
