use Rattle.std.proofs.Common.{Bool, [], ◌++◌, sym, ap, ◌∙◌}
use Rattle.std.specs.Prelude.{◌||◌}
use Rattle.std.specs.List.{list_any}
use Rattle.fc_newmap.specs.Map.{runs_of}
use Rattle.fc_newmap.specs.RunsLaw.{placed}
use Rattle.fc_plan.proofs.Changes.{any_placed, goes}
use Rattle.fc_plan.proofs.changing.meets_run_of.Goals as goal

pub loop-run-init : goal.loop-run-init
loop-run-init c = (placed c.args.z (runs_of c.args.map.now c.args.z) ++ [], c.from_zone-walk.ensures.stands, any_placed c.args.ids.now c.args.z (runs_of c.args.map.now c.args.z))

pub returns-then-is_of : goal.returns-then-is_of
returns-then-is_of c =
    let so_far = c.loop-run.invariant in
    let step = c.in-Some.ensures.value so_far.0 so_far.1 in
    sym (sym so_far.2 ∙ ap (list_any (goes c.args.ids.now)) step.1.0 ∙ ap (λ (b : Bool). b || list_any (goes c.args.ids.now) step.0) (sym c.is_of.ensures ∙ c.if-is_of.true))

pub loop-run-preserved : goal.loop-run-preserved
loop-run-preserved c =
    let so_far = c.loop-run.invariant in
    let step = c.in-Some.ensures.value so_far.0 so_far.1 in
    (step.0, step.1.1, sym (ap (list_any (goes c.args.ids.now)) step.1.0 ∙ ap (λ (b : Bool). b || list_any (goes c.args.ids.now) step.0) (sym c.is_of.ensures ∙ c.if-is_of.false)) ∙ so_far.2)

pub returns : goal.returns
returns c =
    let so_far = c.loop-run.invariant in
    let end = c.in_default.ensures.value so_far.0 so_far.1 in
    sym (ap (list_any (goes c.args.ids.now)) end.0) ∙ so_far.2
