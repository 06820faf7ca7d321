use Rattle.std.proofs.Common.{◌++◌, ◌∷◌, ◌∙◌, [], ℕ, List, ap, append-nil, append_assoc, get_or, map, sym, take}
use Rattle.std.proofs.lemmas.List.{take_more}
use Rattle.std.proofs.lemmas.List.Concat.{flat_map-append}
use Rattle.fc_plan.specs.declared.plan.Part.{Part}
use Rattle.fc_plan.specs.declared.plan.Plan.{Plan}
use Rattle.fc_safe.specs.Zones.{zones_of_plans}
use Rattle.fc_safe.proofs.zones.push_plans.Goals as goal

pub loop-plan-preserved : goal.loop-plan-preserved
loop-plan-preserved c =
    let plans : List Plan = c.args.plans.now in
    let old : List ℕ = c.args.zones.now.items in
    let i = c.loop-plan.plan-index in
    let of : Plan → List ℕ = λ p. map (λ (q : Part). q.zone) p.parts.items in
    c.in_ok-push_zones.ensures
    ∙ ap (λ (ps : List Part). c.loop-plan.zones.items ++ map (λ (q : Part). q.zone) ps) c.deref.ensures.value
    ∙ ap (λ (zs : List ℕ). zs ++ of c.plan-item.result) c.loop-plan.invariant
    ∙ append_assoc old (zones_of_plans (take i plans)) (of c.plan-item.result)
    ∙ ap (λ (zs : List ℕ). old ++ zs) (sym (ap zones_of_plans (take_more plans i c.plan-item.result c.loop-plan-test.true)
    ∙ flat_map-append of (take i plans) (get_or plans i c.plan-item.result ∷ [])
    ∙ ap (λ (zs : List ℕ). zones_of_plans (take i plans) ++ zs) (append-nil (of (get_or plans i c.plan-item.result))
    ∙ ap of (sym c.plan-item.is))))
