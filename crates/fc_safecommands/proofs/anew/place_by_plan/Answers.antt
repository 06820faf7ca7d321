use Rattle.std.proofs.Common.{rules, ◌≡◌, ◌==◌, ◌∙◌, ℕ, List, Option, Some, true, false, ap, sym, take, drop, []}
use Rattle.std.specs.Option.{option_map_or}
use Rattle.std.proofs.lemmas.Result.{IfOk-weaker}
use Rattle.fc_objects.specs.Extents.{sectors_in}
use Rattle.fc_plan.specs.declared.plan.Plan.{Plan}
use Rattle.fc_change.specs.GrownSpace.{plan_sectors}
use Rattle.fc_safecommands.specs.Anew.{laid_by}
use Rattle.fc_safecommands.proofs.AnewLemmas.{find_here, find_more}
use Rattle.fc_safecommands.proofs.anew.place_by_plan.Goals as goal

pub returns-then-plan-own : goal.returns-then-plan-own
returns-then-plan-own c =
    let own = c.args.own.now in
    let m = c.args.map.now in
    let plans : List Plan = c.args.plans.now in
    let of : Option Plan → List ℕ = λ o. option_map_or (λ (p : Plan). take own.sectors (drop own.first (plan_sectors m.geometry p))) o [] in
    let test : Plan → Rattle.std.proofs.Common.Bool = λ p. p.id == own.id in
    let here : test c.plan-item.result ≡ true = search rules in
    let found = find_here test plans c.loop-plan.plan-index c.plan-item.result c.loop-plan-test.true c.loop-plan.invariant (ap test (sym c.plan-item.is) ∙ here) in
    IfOk-weaker c.extents_at.result (λ place. sectors_in place.items ≡ of (Some c.plan-item.result)) (λ place. sectors_in place.items ≡ laid_by m plans own)
    (λ place is. is ∙ sym (ap of (found ∙ ap (λ (p : Plan). let o : Option Plan = Some p in o) (sym c.plan-item.is)))) c.extents_at.ensures

pub loop-plan-preserved : goal.loop-plan-preserved
loop-plan-preserved c =
    let own = c.args.own.now in
    let test : Plan → Rattle.std.proofs.Common.Bool = λ p. p.id == own.id in
    let here : test c.plan-item.result ≡ false = search rules in
    find_more test c.args.plans.now c.loop-plan.plan-index c.plan-item.result c.loop-plan-test.true c.loop-plan.invariant (ap test (sym c.plan-item.is) ∙ here)
