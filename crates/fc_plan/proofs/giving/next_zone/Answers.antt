use Rattle.std.proofs.Common.{ap, arith}
use Rattle.fc_record.specs.declared.Geometry.{Geometry}
use Rattle.fc_newmap.specs.Map.{runs_of}
use Rattle.fc_plan.proofs.NoIds.{no_run_of, none_so_far}
use Rattle.fc_plan.proofs.giving.next_zone.Goals as goal

pub loop-i-init : goal.loop-i-init
loop-i-init c =
    let all = ap (λ (g : Geometry). g.zones) c.geometry.ensures.value in
    record { onward = omega arith; low = omega arith; none = λ y j from less none. absurd (omega arith) }

pub loop-i-preserved : goal.loop-i-preserved
loop-i-preserved c =
    let is = c.loop-i.invariant in
    let to = c.min-next.ensures in
    let on = c.next_zone_of.ensures.onward in
    let on' = is.onward in
    let low = is.low in
    record {
      onward = omega arith;
      low = omega arith;
      none = λ y j from less at. none_so_far c.args.ids.now (runs_of c.args.map.now y) c.loop-i.i (λ k below. is.none y k from (omega arith) below) (c.next_zone_of.ensures.none y from (omega arith)) j at;
    }

pub returns-clause-onward : goal.returns-clause-onward
returns-clause-onward c = c.loop-i.invariant.onward

pub returns-clause-low : goal.returns-clause-low
returns-clause-low c = c.loop-i.invariant.low

pub returns-clause-none : goal.returns-clause-none
returns-clause-none c = λ y from less.
    no_run_of c.args.ids.now (runs_of c.args.map.now y) (λ j low. c.loop-i.invariant.none y j from less (let past = c.loop-i-test.false in omega arith))
