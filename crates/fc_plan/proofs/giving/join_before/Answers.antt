use Rattle.fc_newmap.proofs.ComposeLemmas.{edit_none}
use Rattle.fc_plan.proofs.giving.join_before.Goals as goal

pub returns-in_default-clause-edit : goal.returns-in_default-clause-edit
returns-in_default-clause-edit c = edit_none c.args.map.now c.args.z c.requires.map

pub returns-in_default-kind-clause-edit : goal.returns-in_default-kind-clause-edit
returns-in_default-kind-clause-edit c = edit_none c.args.map.now c.args.z c.requires.map
