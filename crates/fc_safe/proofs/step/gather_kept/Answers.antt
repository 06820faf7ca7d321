use Rattle.std.proofs.Common.{◌++◌, ◌∙◌, [], List, ap, cond, sym, take}
use Rattle.fc_plan.specs.declared.plan.Part.{Part}
use Rattle.fc_plan.specs.declared.plan.Plan.{Plan}
use Rattle.fc_plan.specs.Giving.{is_one_of}
use Rattle.fc_safe.specs.FirstSpace.{parts_kept}
use Rattle.fc_safe.proofs.StepLemmas.{kept_more}
use Rattle.fc_safe.proofs.step.gather_kept.Goals as goal

pub loop-plan-preserved : goal.loop-plan-preserved
loop-plan-preserved c =
    let of : Plan → List Part = λ p. cond (is_one_of c.args.gone.now p.id) p.parts.items [] in
    c.in_ok-push_kept.ensures ∙ ap (λ (xs : List Part). xs ++ of c.plan-item.result) c.loop-plan.invariant
    ∙ ap (λ (p : Plan). parts_kept (take c.loop-plan.plan-index c.args.plans.now) c.args.gone.now ++ of p) c.plan-item.is
    ∙ sym (kept_more c.args.plans.now c.args.gone.now c.loop-plan.plan-index c.plan-item.result c.loop-plan-test.true)
