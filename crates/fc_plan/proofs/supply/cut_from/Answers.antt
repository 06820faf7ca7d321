use Rattle.std.proofs.Common.{◌%◌, ◌++◌, ℕ, List, map, ap, subst, sym, ◌∙◌}
use Rattle.fc_plan.specs.Parts.{fronts, part_of}
use Rattle.fc_image.specs.effects.Placed.{IsPlan}
use Rattle.fc_plan.proofs.Fronts.{left_of_fronts, plan_of_fronts}
use Rattle.fc_newmap.specs.Map.{ZoneRun}
use Rattle.fc_plan.specs.Plan.{AreFreeRuns}
use Rattle.fc_plan.proofs.MetHoles.{free_behind}
use Rattle.fc_plan.proofs.Order.{rising_of}
use Rattle.fc_plan.proofs.Plans.{cut_of_plan, min_some}
use Rattle.fc_plan.proofs.Units.{units_whole_of}
use Rattle.fc_plan.proofs.supply.cut_from.Goals as goal

pub fewest-requires-clause-whole : goal.fewest-requires-clause-whole
fewest-requires-clause-whole c = ap (λ (n : ℕ). n % c.args.g.now.q) c.units.ensures ∙ units_whole_of c.args.g.now c.args.bytes c.requires.record

pub returns-clause-plan : goal.returns-clause-plan
returns-clause-plan c =
    subst (λ (n : ℕ). IsPlan c.args.g.now c.args.holes.now n (fronts c.in_ok-parts.parts.items)) c.units.ensures
    (plan_of_fronts c.args.g.now c.args.holes.now c.in-Some.taking.parts.items c.in_ok-parts.parts.items c.units.result (c.in_ok-parts.ensures ∙ ap (map part_of) c.deref.ensures.value) (rw c.in-Some.is at c.in_ok-taking.ensures.plan))

pub returns-clause-cut : goal.returns-clause-cut
returns-clause-cut c =
    cut_of_plan c.args.g.now c.args.holes.now c.units.result (fronts c.in_ok-parts.parts.items)
    (plan_of_fronts c.args.g.now c.args.holes.now c.in-Some.taking.parts.items c.in_ok-parts.parts.items c.units.result (c.in_ok-parts.ensures ∙ ap (map part_of) c.deref.ensures.value) (rw c.in-Some.is at c.in_ok-taking.ensures.plan))

pub returns-clause-left : goal.returns-clause-left
returns-clause-left c =
    rw c.in-Some.is at c.in_ok-taking.ensures.left ∙ sym (left_of_fronts c.args.holes.now c.in-Some.taking.parts.items c.in_ok-parts.parts.items (c.in_ok-parts.ensures ∙ ap (map part_of) c.deref.ensures.value))

pub returns-clause-free : goal.returns-clause-free
returns-clause-free c = λ ahead free.
    (let g = c.args.g.now in
    let holes : List ZoneRun = c.args.holes.now in
    let parts : List ZoneRun = c.in-Some.taking.parts.items in
    let plan : IsPlan g holes c.units.result parts = rw c.in-Some.is at c.in_ok-taking.ensures.plan in
    subst (λ (left : List ZoneRun). AreFreeRuns g (left ++ ahead)) (sym (rw c.in-Some.is at c.in_ok-taking.ensures.left))
    (free_behind g holes ahead parts (min_some g c.requires.record) free plan.taken.fronts plan.long (rising_of parts plan.rising)))
