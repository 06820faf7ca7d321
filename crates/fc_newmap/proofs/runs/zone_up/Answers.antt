use Rattle.std.proofs.Common.{arith}
use Rattle.fc_newmap.proofs.AheadLemmas.{up_is}
use Rattle.fc_newmap.proofs.runs.zone_up.Goals as goal

pub returns-then-n-above-clause-value : goal.returns-then-n-above-clause-value
returns-then-n-above-clause-value c = let is = up_is c.args.g.now c.args.z c.args.n c.requires.zone c.requires.few in omega (arith, is.0 (omega (arith, c.if-n-above.true)))

pub returns-else-n-above-clause-value : goal.returns-else-n-above-clause-value
returns-else-n-above-clause-value c = let is = up_is c.args.g.now c.args.z c.args.n c.requires.zone c.requires.few in omega (arith, is.1 (omega (arith, c.if-n-above.false)))
