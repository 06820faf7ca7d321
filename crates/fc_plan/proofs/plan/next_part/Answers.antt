use Rattle.std.proofs.Common.{◌≡◌, ◌≤◌, rules, true, false, arith, length, sym, ap}
use Rattle.std.specs.Prelude.{nat_lt}
use Rattle.std.specs.List.Sorted.{IsPartitionPoint}
use Rattle.std.proofs.lemmas.Bool.{ltb-false, ltb-true}
use Rattle.std.proofs.lemmas.Fn.{always_returns_same}
use Rattle.fc_plan.specs.declared.plan.Part.{Part}
use Rattle.fc_plan.proofs.Fronts.{partitioned_by_zone, zone_next, zone_none}
use Rattle.fc_plan.proofs.plan.next_part.Goals as goal
use Rattle.fc_plan.proofs.plan.next_part.Goals.{After-partition_point-place}

cut : (c : After-partition_point-place) → IsPartitionPoint (λ (y : Part). nat_lt y.zone c.args.z ≡ true) (λ (y : Part). nat_lt y.zone c.args.z ≡ false) c.args.parts.now c.partition_point-place.result
cut c =
    c.partition_point-place.ensures.partitioned (λ (y : Part). nat_lt y.zone c.args.z) (always_returns_same _ _ _ (λ a r q h. search rules)) (partitioned_by_zone c.args.parts.now c.requires c.args.z)

pub returns-in-Some-clause-onward : goal.returns-in-Some-clause-onward
returns-in-Some-clause-onward c =
    let look = c.in-Some.ensures.lookup in
    let next = zone_next c.args.parts.now c.requires c.args.z c.partition_point-place.result (cut (goal.at.returns-in-Some-clause-onward c).After-partition_point-place) c.in-Some.part.now (ltb-true _ _ (sym look.0)) in
    let same = ap (λ (p : Part). p.zone) look.1 in
    omega arith

pub returns-in-Some-clause-none : goal.returns-in-Some-clause-none
returns-in-Some-clause-none c = λ y from less.
    (let look = c.in-Some.ensures.lookup in
    let same = ap (λ (p : Part). p.zone) look.1 in
    zone_none c.args.parts.now c.requires c.args.z c.partition_point-place.result (cut (goal.at.returns-in-Some-clause-none c).After-partition_point-place) y c.in-Some.part.now from (λ low. omega arith))

pub returns-in-None-clause-none : goal.returns-in-None-clause-none
returns-in-None-clause-none c = λ y from less.
    (let look = c.in-None.ensures.lookup in
    let past : length c.args.parts.now ≤ c.partition_point-place.result = ltb-false _ _ (sym look.0) in
    let none : Part = record { zone = 0; start = 0; len = 0 } in
    zone_none c.args.parts.now c.requires c.args.z c.partition_point-place.result (cut (goal.at.returns-in-None-clause-none c).After-partition_point-place) y none from (λ low. absurd (omega arith)))
