use Rattle.std.proofs.Common.{◌≡◌, Some, Option, List, subst, sym, ◌∙◌}
use Rattle.fc_newmap.specs.Map.{ZoneRun}
use Rattle.fc_image.specs.safe.FirstFit.{first_fit}
use Rattle.fc_plan.specs.Plan.{AreFreeRuns}
use Rattle.fc_plan.proofs.FirstFit.{Fits, first_fits, fit_leaves, fit_leaves_free, fit_low}
use Rattle.fc_plan.proofs.Plans.{min_some, min_whole}
use Rattle.fc_plan.proofs.fitting.first_fitting.Goals as goal
use Rattle.fc_plan.proofs.fitting.first_fitting.Goals.{In-Some}

fits : (c : In-Some) → Fits c.args.g.now c.args.holes.now c.in-Some.parts.items
fits c =
    let g = c.args.g.now in
    let holes : List ZoneRun = c.args.holes.now in
    first_fits g (min_some g c.requires.record) (min_whole g c.requires.record) holes c.args.bits c.in-Some.parts.items c.requires.least c.requires.whole c.requires.holes
    (sym (subst (λ (hs : List ZoneRun). (let o : Option (List ZoneRun) = Some c.in-Some.parts.items in o) ≡ first_fit g c.args.bits hs) c.in_ok-copy.ensures.items c.in-Some.ensures))

pub holes_left-requires-clause-parts : goal.holes_left-requires-clause-parts
holes_left-requires-clause-parts c = rw c.deref.ensures.value (fit_low c.args.g.now c.args.holes.now c.in-Some.parts.items c.requires.holes (fits (goal.at.holes_left-requires-clause-parts c).In-Some))

pub returns-clause-left : goal.returns-clause-left
returns-clause-left c =
    c.in_ok-left.ensures
    ∙ rw c.deref.ensures.value (fit_leaves c.args.g.now c.args.holes.now c.in-Some.parts.items (min_some c.args.g.now c.requires.record) c.requires.holes (fits (goal.at.returns-clause-left c).In-Some))

pub returns-clause-free : goal.returns-clause-free
returns-clause-free c =
    subst (λ (hs : List ZoneRun). AreFreeRuns c.args.g.now hs) (sym (rw c.deref.ensures.value at c.in_ok-left.ensures))
    (fit_leaves_free c.args.g.now c.args.holes.now c.in-Some.parts.items (min_some c.args.g.now c.requires.record) c.requires.holes (fits (goal.at.returns-clause-free c).In-Some))
