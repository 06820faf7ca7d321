use Rattle.std.proofs.Common.{◌≡◌, ◌==◌, rules, true, false, sym, ap, ◌∙◌}
use Rattle.std.specs.Prelude.{nat_lt}
use Rattle.std.specs.List.Sorted.{IsPartitionPoint}
use Rattle.std.proofs.lemmas.Bool.{ltb-false, ltb-true}
use Rattle.std.proofs.lemmas.Fn.{always_returns_same}
use Rattle.fc_plan.specs.declared.plan.Part.{Part}
use Rattle.fc_plan.proofs.Fronts.{partitioned_by_zone, zone_nowhere, zone_there}
use Rattle.fc_plan.proofs.plan.has_part.Goals as goal
use Rattle.fc_plan.proofs.plan.has_part.Goals.{After-partition_point-place}

cut : (c : After-partition_point-place) → IsPartitionPoint (λ (y : Part). nat_lt y.zone c.args.z ≡ true) (λ (y : Part). nat_lt y.zone c.args.z ≡ false) c.args.parts.now c.partition_point-place.result
cut c =
    c.partition_point-place.ensures.partitioned (λ (y : Part). nat_lt y.zone c.args.z) (always_returns_same _ _ _ (λ a r q h. search rules)) (partitioned_by_zone c.args.parts.now c.requires c.args.z)

pub returns-in-Some : goal.returns-in-Some
returns-in-Some c =
    let look = c.in-Some.ensures.lookup in
    ap (λ (p : Part). p.zone == c.args.z) look.1
    ∙ zone_there c.args.parts.now c.requires c.args.z c.partition_point-place.result (cut (goal.at.returns-in-Some c).After-partition_point-place) c.in-Some.part.now (ltb-true _ _ (sym look.0))

pub returns-in-None : goal.returns-in-None
returns-in-None c =
    let look = c.in-None.ensures.lookup in
    zone_nowhere c.args.parts.now c.requires c.args.z c.partition_point-place.result (cut (goal.at.returns-in-None c).After-partition_point-place) (ltb-false _ _ (sym look.0))
