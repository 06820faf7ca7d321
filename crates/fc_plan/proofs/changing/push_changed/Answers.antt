use Rattle.std.proofs.Common.{◌≡◌, ◌<◌, ◌+◌, ap, arith}
use Rattle.fc_record.specs.declared.Geometry.{Geometry}
use Rattle.fc_plan.specs.Applied.{is_changed, plan_in}
use Rattle.fc_plan.proofs.Changes.{none_passed, passed_none, step_passed}
use Rattle.fc_plan.proofs.changing.push_changed.Goals as goal

pub loop-z-init : goal.loop-z-init
loop-z-init c =
    let m = c.args.map.now in
    let t = is_changed m (plan_in c.args.object) (plan_in c.args.dir) c.args.gone.now in
    let next = c.next_change-z.ensures in
    record {
      passed = none_passed t m.geometry.zones 0 c.next_change-z.result c.args.zones.now.items c.args.zones.now.items (passed_none t m.geometry.zones c.args.zones.now.items) next.onward next.low next.none;
      low = next.low;
    }

pub loop-z-preserved : goal.loop-z-preserved
loop-z-preserved c =
    let m = c.args.map.now in
    let t = is_changed m (plan_in c.args.object) (plan_in c.args.dir) c.args.gone.now in
    let same : c.geometry.result.now.zones ≡ m.geometry.zones = ap (λ (g : Geometry). g.zones) c.geometry.ensures.value in
    let low : c.loop-z.z < m.geometry.zones = omega (arith, c.loop-z-test.true) in
    let next = c.next_change-z-in-loop-z in
    record {
      passed = none_passed t m.geometry.zones (c.loop-z.z + 1) next.result c.args.zones.now.items c.push_if.new.zones.items
          (step_passed t m.geometry.zones c.loop-z.z c.args.zones.now.items c.loop-z.zones.items c.push_if.new.zones.items c.is_changed-changes.result
          c.loop-z.invariant.passed low c.is_changed-changes.ensures c.in_ok-push_if.ensures.ok) next.ensures.onward next.ensures.low next.ensures.none;
      low = next.ensures.low;
    }
