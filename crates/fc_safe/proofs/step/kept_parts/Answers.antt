use Rattle.std.proofs.Common.{List, sym, subst}
use Rattle.std.specs.List.Sorted.{IsPermutation}
use Rattle.fc_plan.specs.declared.plan.Part.{Part}
use Rattle.fc_plan.specs.Parts.{fronts}
use Rattle.fc_plan.specs.Plan.{AreApart}
use Rattle.fc_safe.proofs.StepLemmas.{kept_apart}
use Rattle.fc_safe.proofs.step.kept_parts.Goals as goal

pub sorted_parts-requires : goal.sorted_parts-requires
sorted_parts-requires c = subst (λ (ps : List Part). AreApart (fronts ps)) (sym c.in_ok-kept.ensures) (kept_apart c.args.plans.now c.args.gone.now c.requires.apart)

pub returns-clause-same : goal.returns-clause-same
returns-clause-same c = subst (λ (ps : List Part). IsPermutation ps c.sorted_parts.result.items) c.in_ok-kept.ensures c.sorted_parts.ensures.same
