use Rattle.fc_newmap.proofs.ComposeLemmas.{edit_none}
use Rattle.fc_plan.proofs.giving.pass.Goals as goal

pub returns-then-not-goes-clause-edit : goal.returns-then-not-goes-clause-edit
returns-then-not-goes-clause-edit c = edit_none c.args.map.now c.args.z c.requires.map

pub returns-clause-runs : goal.returns-clause-runs
returns-clause-runs c = λ front rest runs. rw (c.if-not-goes.false, c.give_run.ensures.value front rest runs) (c.give_run.ensures.runs front rest runs)

pub returns-clause-value : goal.returns-clause-value
returns-clause-value c = λ front rest runs. rw c.if-not-goes.false (c.give_run.ensures.value front rest runs)
