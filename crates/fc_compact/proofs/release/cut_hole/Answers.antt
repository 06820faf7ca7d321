use Rattle.fc_newmap.proofs.ComposeLemmas.{edit_none}
use Rattle.fc_compact.proofs.release.cut_hole.Goals as goal

pub returns-else-left-gt0-clause-edit : goal.returns-else-left-gt0-clause-edit
returns-else-left-gt0-clause-edit c = edit_none c.args.map.now c.args.z c.is_map.ensures
