use Rattle.std.proofs.Common.{◌≡◌, rules, true, false, sym, ap, ◌∙◌}
use Rattle.std.specs.List.Sorted.{IsPartitionPoint}
use Rattle.std.proofs.lemmas.Bool.{ltb-false, ltb-true}
use Rattle.std.proofs.lemmas.Fn.{always_returns_same}
use Rattle.fc_plan.specs.Parts.{begins_at, begins_before}
use Rattle.fc_plan.specs.declared.plan.Part.{Part}
use Rattle.fc_plan.proofs.Fronts.{front_nowhere, front_there, partitioned}
use Rattle.fc_plan.proofs.plan.is_front.Goals as goal
use Rattle.fc_plan.proofs.plan.is_front.Goals.{After-partition_point-place}

cut : (c : After-partition_point-place) → IsPartitionPoint (λ (y : Part). begins_before c.args.z c.args.start y ≡ true) (λ (y : Part). begins_before c.args.z c.args.start y ≡ false) c.args.parts.now c.partition_point-place.result
cut c =
    c.partition_point-place.ensures.partitioned (begins_before c.args.z c.args.start) (always_returns_same _ _ _ (λ a r q h. search rules)) (partitioned c.args.parts.now c.requires c.args.z c.args.start)

pub returns-in-Some : goal.returns-in-Some
returns-in-Some c = λ run at.
    let look = c.in-Some.ensures.lookup in
    c.begins_at.ensures ∙ ap (begins_at c.args.z c.args.start) look.1
    ∙ front_there c.args.parts.now c.requires c.args.z c.args.start run at c.partition_point-place.result (cut (goal.at.returns-in-Some c).After-partition_point-place) c.in-Some.part.now (ltb-true _ _ (sym look.0))

pub returns-in-None : goal.returns-in-None
returns-in-None c = λ run at.
    let look = c.in-None.ensures.lookup in
    front_nowhere c.args.parts.now c.requires c.args.z c.args.start run at c.partition_point-place.result (cut (goal.at.returns-in-None c).After-partition_point-place) (ltb-false _ _ (sym look.0))
