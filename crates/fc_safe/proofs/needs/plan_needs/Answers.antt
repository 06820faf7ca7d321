use Rattle.std.proofs.Common.{ap, refl}
use Rattle.std.specs.Prelude.{Err, Vec}
use Rattle.std.specs.declared.alloc.Global.{Global}
use Rattle.fc_plan.specs.declared.plan.Plan.{Plan}
use Rattle.fc_safe.specs.Needs.{full_if}
use Rattle.fc_safe.proofs.NeedsLemmas.{all_met, met_on, refused}
use Rattle.fc_safe.proofs.needs.plan_needs.Goals as goal

pub returns-in-Err-clause-refused : goal.returns-in-Err-clause-refused
returns-in-Err-clause-refused c =
    refused c.args.map.now c.args.needs.now c.loop-need.need-index _ c.loop-need.plans.items c.loop-need.supply c.loop-need-test.true c.loop-need.invariant {T = Vec Plan Global} c.in-Err.error (Err c.in-Err.error) c.in-Err.ensures.unmet refl

pub loop-need-preserved : goal.loop-need-preserved
loop-need-preserved c =
    met_on c.args.map.now c.args.needs.now c.loop-need.need-index _ c.loop-need.plans.items c.loop-need.supply c.loop-need-test.true c.loop-need.invariant c.plan_need.new.supply c.in-Ok.plan
    c.push.new.list.items c.in-Ok.ensures.met c.in_ok-push.ensures

pub returns-clause-plans : goal.returns-clause-plans
returns-clause-plans c = all_met c.args.map.now c.args.needs.now c.loop-need.need-index c.loop-need.plans.items c.loop-need.supply c.loop-need-test.false c.loop-need.invariant

pub returns-clause-refused : goal.returns-clause-refused
returns-clause-refused c =
    ap full_if (all_met c.args.map.now c.args.needs.now c.loop-need.need-index c.loop-need.plans.items c.loop-need.supply c.loop-need-test.false c.loop-need.invariant).fit
