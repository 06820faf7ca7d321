use Rattle.std.proofs.Common.{arith}
use Rattle.fc_objects.proofs.ExtentLemmas.{leads_first, leads_past, leads_here}
use Rattle.fc_objects.proofs.pieces.object_sector.Goals as goal

pub loop-i-init : goal.loop-i-init
loop-i-init c = leads_first c.args.at.now c.args.sector c.requires.within

pub loop-i-preserved : goal.loop-i-preserved
loop-i-preserved c = leads_past c.args.at.now c.args.sector c.loop-i.i c.loop-i.left c.loop-i.invariant (omega (arith, c.loop-i-test.true))

pub overflow_add-result : goal.overflow_add-result
overflow_add-result c =
    let here = leads_here c.args.at.now c.args.sector c.loop-i.i c.loop-i.left c.loop-i.invariant (omega (arith, c.loop-i-test.false)) in
    omega (arith, here, c.requires.fits)

pub returns : goal.returns
returns c = leads_here c.args.at.now c.args.sector c.loop-i.i c.loop-i.left c.loop-i.invariant (omega (arith, c.loop-i-test.false))
