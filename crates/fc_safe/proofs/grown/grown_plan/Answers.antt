use Rattle.std.proofs.Common.{Option, subst}
use Rattle.fc_change.specs.declared.job.Growth.{Growth}
use Rattle.fc_safe.specs.Grown.{HasGrownPlan}
use Rattle.fc_safe.proofs.grown.grown_plan.Goals as goal

pub plan_of-requires : goal.plan_of-requires
plan_of-requires c = let r = subst (λ (o : Option Growth). HasGrownPlan o c.args.plans.now c.args.id) c.in-None.is c.requires in (r.0, r.1.0, r.1.1)
