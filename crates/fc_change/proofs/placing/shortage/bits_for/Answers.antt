use Rattle.std.proofs.Common.{arith}
use Rattle.fc_change.proofs.ShortageLemmas.{min_few}
use Rattle.fc_change.proofs.placing.shortage.bits_for.Goals as goal

pub overflow_mul-result : goal.overflow_mul-result
overflow_mul-result c = let few = min_few c.args.g.now c.requires.record in omega (arith, few, c.from.ensures)

pub overflow_add-result-then-dir-gt0 : goal.overflow_add-result-then-dir-gt0
overflow_add-result-then-dir-gt0 c = let few = min_few c.args.g.now c.requires.record in omega (arith, few, c.from.ensures, c.requires.object, c.requires.dir)
