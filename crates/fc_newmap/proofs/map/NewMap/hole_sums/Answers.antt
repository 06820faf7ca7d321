use Rattle.std.proofs.Common.{arith}
use Rattle.fc_newmap.specs.Map.{bits_in, hole_runs, longest}
use Rattle.fc_newmap.specs.Walk.{holes_in}
use Rattle.fc_newmap.proofs.ExtentLemmas.{longest_more, sum_more}
use Rattle.fc_newmap.proofs.map.NewMap.hole_sums.Goals as goal

pub loop-run-preserved : goal.loop-run-preserved
loop-run-preserved c =
    let before = c.loop-run.invariant.stands in
    let r = c.in-Some.ensures.value before.0 before.1.0 in
    let m = c.args.self.now in
    let more = sum_more (c.in-Some.field-0-0, c.in-Some.run') (holes_in r.0) c.loop-run.total (bits_in (hole_runs m)) (holes_in before.0) r.1.0 before.1.1 in
    let most = longest_more (c.in-Some.field-0-0, c.in-Some.run') (holes_in r.0) c.loop-run.most c.max-most.result (longest (hole_runs m)) (holes_in before.0) r.1.0
    (omega (arith, c.max-most.ensures, c.from-len.ensures)) before.1.2 in
    record {
      stands = (r.0, (r.1.1, omega (arith, more, c.from-len.ensures), most));
      room = omega (arith, c.in-Some.ensures.onward.1, c.loop-run.invariant.room, c.from-len.ensures);
    }
