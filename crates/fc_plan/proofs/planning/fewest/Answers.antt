use Rattle.std.proofs.Common.{List, subst, sym, ◌∙◌}
use Rattle.fc_newmap.specs.Map.{ZoneRun}
use Rattle.fc_image.specs.effects.Placed.{IsPlan}
use Rattle.fc_plan.specs.Plan.{AreFreeRuns}
use Rattle.fc_plan.proofs.Plans.{left_is_free, left_of_plan, lens_low, min_some, min_whole}
use Rattle.fc_plan.proofs.planning.fewest.Goals as goal
use Rattle.fc_plan.proofs.planning.fewest.Goals.{In_ok-left}

pub rising_parts-requires-clause-min : goal.rising_parts-requires-clause-min
rising_parts-requires-clause-min c = min_whole c.args.g.now c.requires.record

pub holes_left-requires-clause-parts : goal.holes_left-requires-clause-parts
holes_left-requires-clause-parts c =
    let g = c.args.g.now in
    let holes : List ZoneRun = c.args.holes.now in
    let plan : IsPlan g holes c.args.bits c.in-Some.parts.items = subst (λ (hs : List ZoneRun). IsPlan g hs c.args.bits c.in-Some.parts.items) c.in_ok-copy.ensures.items c.in-Some.ensures in
    rw c.deref.ensures.value (lens_low g holes c.in-Some.parts.items c.requires.holes.each plan.taken.fronts)

planned : (c : In_ok-left) → IsPlan c.args.g.now c.args.holes.now c.args.bits c.in-Some.parts.items
planned c = subst (λ (hs : List ZoneRun). IsPlan c.args.g.now hs c.args.bits c.in-Some.parts.items) c.in_ok-copy.ensures.items c.in-Some.ensures

pub returns-clause-plan : goal.returns-clause-plan
returns-clause-plan c = planned c

pub returns-clause-left : goal.returns-clause-left
returns-clause-left c =
    c.in_ok-left.ensures ∙ rw c.deref.ensures.value (left_of_plan c.args.g.now c.args.holes.now c.in-Some.parts.items (min_some c.args.g.now c.requires.record) c.requires.holes c.args.bits (planned c))

pub returns-clause-free : goal.returns-clause-free
returns-clause-free c =
    subst (λ (hs : List ZoneRun). AreFreeRuns c.args.g.now hs) (sym (rw c.deref.ensures.value at c.in_ok-left.ensures))
    (left_is_free c.args.g.now c.args.holes.now c.in-Some.parts.items (min_some c.args.g.now c.requires.record) c.requires.holes c.args.bits (planned c))
