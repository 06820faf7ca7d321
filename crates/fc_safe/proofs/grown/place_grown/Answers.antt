use Rattle.std.proofs.Common.{◌≡◌, ◌∙◌, ℕ, Option, Some, ap, ap₂, subst, sym}
use Rattle.fc_image.specs.Layout.{id_of}
use Rattle.fc_tree.specs.Counts.{address_in}
use Rattle.fc_change.specs.declared.job.Growth.{Growth}
use Rattle.fc_change.specs.Held.{parts_of}
use Rattle.fc_safe.specs.FirstNeeds.{moving_out}
use Rattle.fc_safe.specs.FirstSpace.{IsGrownFirst, address_then}
use Rattle.fc_safe.specs.Grown.{HasGrownPlan, IsGrownPlan, IsPlacedIn}
use Rattle.fc_safe.proofs.GrownLemmas.{first_grown}
use Rattle.fc_safe.proofs.grown.place_grown.Goals as goal

pub grown_plan-plan-requires : goal.grown_plan-plan-requires
grown_plan-plan-requires c = subst (λ (a : ℕ). HasGrownPlan c.args.out c.args.plans.now (id_of a)) (sym c.address_of-address.ensures) (c.requires.plan c.in-Some.growth c.in-Some.is)

pub address_then-requires : goal.address_then-requires
address_then-requires c = (c.requires.each c.grown_plan-plan.result.now c.grown_plan-plan.ensures.among).1

pub place_in-requires : goal.place_in-requires
place_in-requires c = (c.requires.each c.grown_plan-plan.result.now c.grown_plan-plan.ensures.among).0

pub returns : goal.returns
returns c =
    let m = c.args.map.now in
    let h = parts_of c.args.held.now in
    let g = c.in-Some.growth in
    let plans = c.args.plans.now in
    let plan = c.grown_plan-plan.result.now in
    let place = c.in_ok-place.place in
    let out_is : c.args.out ≡ moving_out m h (Some g) = c.requires.out ∙ ap (moving_out m h) c.in-Some.is in
    let at : c.address_of-address.result ≡ address_in h.nodes g.node = c.address_of-address.ensures in
    subst (λ (o : Option Growth). IsGrownFirst m h o plans (Some place)) (sym c.in-Some.is)
    (first_grown m h g plans plan place c.grown_plan-plan.ensures.among
    (subst (λ (o : Option Growth). IsGrownPlan o plans (id_of (address_in h.nodes g.node)) plan) out_is
    (subst (λ (a : ℕ). IsGrownPlan c.args.out plans (id_of a) plan) at c.grown_plan-plan.ensures.plan))
    (subst (λ (a : ℕ). IsPlacedIn m g a plan place) (c.address_then.ensures ∙ ap₂ (λ (o : Option Growth) (a : ℕ). address_then o a plan) out_is at) c.in_ok-place.ensures))
