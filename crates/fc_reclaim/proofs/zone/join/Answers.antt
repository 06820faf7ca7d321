use Rattle.std.proofs.Common.{arith, refl}
use Rattle.fc_plan.proofs.Gives.{can_merge, two_short}
use Rattle.fc_reclaim.proofs.zone.join.Goals as goal

pub overflow_add-result : goal.overflow_add-result
overflow_add-result c = let r = two_short c.args.map.now c.args.z c.args.one c.args.two c.requires.holes c.requires.map in omega (arith, r.0, r.1)

pub merge-requires-clause-runs : goal.merge-requires-clause-runs
merge-requires-clause-runs c = can_merge c.args.map.now c.args.z c.args.one c.args.two c.requires.holes c.requires.map

pub returns-clause-runs : goal.returns-clause-runs
returns-clause-runs c = λ front rest runs. c.merge.ensures.runs front rest c.args.one c.args.two runs refl
