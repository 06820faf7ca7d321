use Rattle.std.proofs.Common.{arith}
use Rattle.fc_newmap.proofs.HeldLemmas.{end_last, end_earlier}
use Rattle.fc_newmap.proofs.shapes.end_bit.Goals as goal

pub overflow_add-result : goal.overflow_add-result
overflow_add-result c =
    let e = end_last c.args.g.now c.args.z c.requires.geometry c.requires.zone c.if-z-g.true in
    omega (arith, e.0, e.1, e.2, e.3, c.from.ensures, c.first_bit.ensures)

pub overflow_sub-result : goal.overflow_sub-result
overflow_sub-result c =
    let e = end_last c.args.g.now c.args.z c.requires.geometry c.requires.zone c.if-z-g.true in
    omega (arith, e.0, e.1, e.2, e.3, c.from.ensures, c.first_bit.ensures, c.base.ensures)

pub overflow_cast-result : goal.overflow_cast-result
overflow_cast-result c =
    let e = end_last c.args.g.now c.args.z c.requires.geometry c.requires.zone c.if-z-g.true in
    omega (arith, e.0, e.1, e.2, e.3, c.from.ensures, c.first_bit.ensures, c.base.ensures)

pub overflow_add-result-else-z-g : goal.overflow_add-result-else-z-g
overflow_add-result-else-z-g c = let e = end_earlier c.args.g.now c.requires.geometry in omega (arith, e)
