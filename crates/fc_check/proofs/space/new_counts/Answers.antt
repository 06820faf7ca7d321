use Rattle.std.proofs.Common.{◌-◌, ◌*◌, List, ap, subst, arith}
use Rattle.fc_record.specs.declared.Geometry.{Geometry}
use Rattle.fc_newmap.specs.Map.{ZoneRun, all_runs}
use Rattle.fc_newmap.specs.Walk.{StandsBefore}
use Rattle.fc_newmap.proofs.HeldLemmas.{geometry_facts}
use Rattle.fc_newmap.proofs.WalkLemmas.{all_is}
use Rattle.fc_check.proofs.SumLemmas.{come_end, come_on, run_room}
use Rattle.fc_space.proofs.SumLemmas.{bytes_fit}
use Rattle.fc_check.proofs.space.new_counts.Goals as goal

pub overflow_sub-g : goal.overflow_sub-g
overflow_sub-g c =
    let f = geometry_facts c.args.map.now.geometry c.geometry-g.ensures.map.of_record in
    let zones = ap (λ (g : Geometry). g.zones) c.geometry-g.ensures.value in
    omega (arith, f.zones, zones)

pub from_zone-walk-requires : goal.from_zone-walk-requires
from_zone-walk-requires c = let f = geometry_facts c.args.map.now.geometry c.geometry-g.ensures.map.of_record in omega (arith, f.zones)

pub loop-run-init : goal.loop-run-init
loop-run-init c =
    let m = c.args.map.now in
    let f = geometry_facts m.geometry c.geometry-g.ensures.map.of_record in
    let zones = ap (λ (g : Geometry). g.zones) c.geometry-g.ensures.value in
    let start = c.from_zone-walk.ensures in
    record {
      stands = (
        all_runs m,
        (
          subst (λ (l : List ZoneRun). StandsBefore m l c.from_zone-walk.result) (all_is m (c.geometry-g.result.now.zones - 1) (omega (arith, f.zones, zones))) start.stands,
          record { holes = omega arith; free = omega arith; lost = omega arith },
        ),
      );
      room = omega (arith, f.zones, zones, start.more, start.short);
      some = omega arith;
    }

pub loop-run-preserved : goal.loop-run-preserved
loop-run-preserved c =
    let before = c.loop-run.invariant.stands in
    let r = c.in-Some.ensures.value before.0 before.1.0 in
    let p : ZoneRun = (c.in-Some.field-0-0, c.in-Some.run') in
    let on = c.in-Some.ensures.onward in
    let room = run_room _ c.loop-run.sums c.with_run-sums.result p _ _ c.with_run-sums.ensures on.0 (omega (arith, on.1, c.loop-run.invariant.room)) c.loop-run.invariant.some in
    record {
      stands = (r.0, (r.1.1, come_on _ c.loop-run.sums c.with_run-sums.result before.0 r.0 p _ _ _ before.1.1 r.1.0 c.with_run-sums.ensures));
      room = room.0;
      some = room.1;
    }

pub overflow_mul-result : goal.overflow_mul-result
overflow_mul-result c =
    let room = c.loop-run.invariant.room in
    let fits = bytes_fit c.args.map.now.geometry c.loop-run.sums.free c.geometry-g.ensures.map.of_record (omega (arith, room)) in
    rw c.geometry-g.ensures.value (omega (arith, fits))

pub overflow_mul-result-2 : goal.overflow_mul-result-2
overflow_mul-result-2 c =
    let room = c.loop-run.invariant.room in
    let fits = bytes_fit c.args.map.now.geometry c.loop-run.sums.lost c.geometry-g.ensures.map.of_record (omega (arith, room)) in
    rw c.geometry-g.ensures.value (omega (arith, fits))

pub returns-clause-holes : goal.returns-clause-holes
returns-clause-holes c =
    let stands = c.loop-run.invariant.stands in
    (come_end _ c.loop-run.sums stands.0 _ _ _ stands.1.1 (c.in_default.ensures.value stands.0 stands.1.0).0).0

pub returns-clause-free : goal.returns-clause-free
returns-clause-free c =
    let stands = c.loop-run.invariant.stands in
    let all = come_end _ c.loop-run.sums stands.0 _ _ _ stands.1.1 (c.in_default.ensures.value stands.0 stands.1.0).0 in
    rw c.geometry-g.ensures.value (ap (λ n. n * c.args.map.now.geometry.bit_bytes) all.1)

pub returns-clause-lost : goal.returns-clause-lost
returns-clause-lost c =
    let stands = c.loop-run.invariant.stands in
    let all = come_end _ c.loop-run.sums stands.0 _ _ _ stands.1.1 (c.in_default.ensures.value stands.0 stands.1.0).0 in
    rw c.geometry-g.ensures.value (ap (λ n. n * c.args.map.now.geometry.bit_bytes) all.2)
