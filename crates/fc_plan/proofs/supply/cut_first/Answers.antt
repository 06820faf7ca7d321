use Rattle.std.proofs.Common.{◌≡◌, ◌%◌, ◌++◌, ◌≤◌, ℕ, List, Option, Some, map, ap, subst, sym, ◌∙◌}
use Rattle.std.specs.Option.{option_map}
use Rattle.fc_newmap.specs.Map.{ZoneRun}
use Rattle.fc_image.specs.safe.FirstFit.{first_fit}
use Rattle.fc_plan.specs.declared.plan.Part.{Part}
use Rattle.fc_plan.specs.Parts.{part_of}
use Rattle.std.proofs.lemmas.List.Elements.{All-from_recursion}
use Rattle.fc_image.specs.effects.Placed.{HasRunLength}
use Rattle.fc_plan.specs.Plan.{AreFreeRuns, IsFrontOfOne}
use Rattle.fc_plan.proofs.MetHoles.{free_behind}
use Rattle.fc_plan.proofs.Fronts.{left_of_fronts}
use Rattle.fc_plan.proofs.FirstFit.{Fits, first_fits, parts_cut, units_least}
use Rattle.fc_plan.proofs.Plans.{min_some, min_whole}
use Rattle.fc_plan.proofs.Units.{units_whole_of}
use Rattle.fc_plan.proofs.supply.cut_first.Goals as goal
use Rattle.fc_plan.proofs.supply.cut_first.Goals.{In-Some}

pub first_fitting-requires-clause-whole : goal.first_fitting-requires-clause-whole
first_fitting-requires-clause-whole c = ap (λ (n : ℕ). n % c.args.g.now.q) c.units.ensures ∙ units_whole_of c.args.g.now c.args.bytes c.requires.record

pub first_fitting-requires-clause-least : goal.first_fitting-requires-clause-least
first_fitting-requires-clause-least c = subst (λ (n : ℕ). c.args.g.now.min ≤ n) (sym c.units.ensures) (units_least c.args.g.now c.args.bytes c.requires.some)

fitted : (c : In-Some) → (let o : Option (List ZoneRun) = Some c.in-Some.taking.parts.items in o) ≡ first_fit c.args.g.now c.units.result c.args.holes.now
fitted c = rw c.in-Some.is at c.in_ok-taking.ensures.fit

parts_fit : (c : In-Some) → Fits c.args.g.now c.args.holes.now c.in-Some.taking.parts.items
parts_fit c =
    let g = c.args.g.now in
    let least : g.min ≤ c.units.result = subst (λ (n : ℕ). g.min ≤ n) (sym c.units.ensures) (units_least g c.args.bytes c.requires.some) in
    let whole : c.units.result % g.q ≡ 0 = ap (λ (n : ℕ). n % g.q) c.units.ensures ∙ units_whole_of g c.args.bytes c.requires.record in
    first_fits g (min_some g c.requires.record) (min_whole g c.requires.record) c.args.holes.now c.units.result c.in-Some.taking.parts.items least whole c.requires.holes (sym (fitted c))

pub returns-clause-fit : goal.returns-clause-fit
returns-clause-fit c =
    ap (λ (n : ℕ). option_map (map part_of) (first_fit c.args.g.now n c.args.holes.now)) (sym c.units.ensures)
    ∙ ap (option_map (map part_of)) (sym (fitted (goal.at.returns-clause-fit c).In-Some))
    ∙ sym (ap (λ (ps : List Part). let o : Option (List Part) = Some ps in o) (c.in_ok-parts.ensures ∙ ap (map part_of) c.deref.ensures.value))

pub returns-clause-cut : goal.returns-clause-cut
returns-clause-cut c =
    parts_cut c.args.g.now c.args.holes.now c.in-Some.taking.parts.items c.in_ok-parts.parts.items (c.in_ok-parts.ensures ∙ ap (map part_of) c.deref.ensures.value) (parts_fit (goal.at.returns-clause-cut c).In-Some)

pub returns-clause-left : goal.returns-clause-left
returns-clause-left c =
    rw c.in-Some.is at c.in_ok-taking.ensures.left ∙ sym (left_of_fronts c.args.holes.now c.in-Some.taking.parts.items c.in_ok-parts.parts.items (c.in_ok-parts.ensures ∙ ap (map part_of) c.deref.ensures.value))

pub returns-clause-free : goal.returns-clause-free
returns-clause-free c = λ ahead free.
    (let g = c.args.g.now in
    let holes : List ZoneRun = c.args.holes.now in
    let parts : List ZoneRun = c.in-Some.taking.parts.items in
    let fits = parts_fit (goal.at.returns-clause-free c).In-Some in
    subst (λ (left : List ZoneRun). AreFreeRuns g (left ++ ahead)) (sym (rw c.in-Some.is at c.in_ok-taking.ensures.left))
    (free_behind g holes ahead parts (min_some g c.requires.record) free (All-from_recursion (IsFrontOfOne g holes) parts fits.0) (All-from_recursion (HasRunLength g) parts fits.1) fits.2))
