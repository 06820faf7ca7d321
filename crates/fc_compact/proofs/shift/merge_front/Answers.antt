use Rattle.fc_newmap.proofs.ComposeLemmas.{edit_none}
use Rattle.fc_compact.proofs.shift.merge_front.Goals as goal

pub returns-else-done-gt0-clause-edit : goal.returns-else-done-gt0-clause-edit
returns-else-done-gt0-clause-edit c = edit_none c.args.map.now c.args.z c.is_map.ensures
