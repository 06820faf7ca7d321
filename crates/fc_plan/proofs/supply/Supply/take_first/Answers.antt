use Rattle.std.proofs.Common.{rules, ◌≡◌, ◌++◌, ℕ, List, Option, Some, None, map, ap, ap₂, subst, sym, ◌∙◌}
use Rattle.std.specs.Option.{option_map}
use Rattle.fc_record.specs.declared.Geometry.{Geometry}
use Rattle.fc_newmap.specs.Map.{ZoneRun}
use Rattle.fc_newmap.specs.NewMap.{IsOfRecord}
use Rattle.fc_image.specs.effects.Placed.{holes_left}
use Rattle.fc_image.specs.effects.Sharing.{units}
use Rattle.fc_image.specs.safe.FirstFit.{first_fit}
use Rattle.fc_plan.specs.declared.plan.Part.{Part}
use Rattle.fc_plan.specs.Parts.{fronts, part_of}
use Rattle.fc_plan.specs.Plan.{AreFreeRuns, AreParts}
use Rattle.fc_plan.specs.Supply.{IsMetFor, Stock, holes_ahead}
use Rattle.fc_plan.proofs.MetHoles.{fit_of_met, free_of_met, left_of_met, parts_of_met}
use Rattle.fc_plan.proofs.Plans.{min_some}
use Rattle.fc_plan.proofs.supply.Supply.take_first.Goals as goal
use Rattle.fc_plan.proofs.supply.Supply.take_first.Goals.{After-deref}

-- ---- the holes, and which of them were met

abbrev ahead : After-deref → List ZoneRun
ahead c = holes_ahead c.self.inside.map.now c.meet.new.self

both : (c : After-deref) → c.deref.result.now ++ ahead c ≡ c.args.self.now.holes
both c = ap (λ (hs : List ZoneRun). hs ++ ahead c) c.deref.ensures.value ∙ c.meet.ensures.same ∙ ap (λ (s : Stock). s.holes) c.self.view_is

same_geometry : (c : After-deref) → c.geometry-g.result.now ≡ c.args.self.now.geometry
same_geometry c = c.geometry-g.ensures.value ∙ ap (λ (s : Stock). s.geometry) c.self.view_is

of_record : (c : After-deref) → IsOfRecord c.geometry-g.result.now
of_record c = subst (λ (g : Geometry). IsOfRecord g) (sym c.geometry-g.ensures.value) c.self.invariant.of_record

free : (c : After-deref) → AreFreeRuns c.geometry-g.result.now (c.deref.result.now ++ ahead c)
free c =
    subst (λ (g : Geometry). AreFreeRuns g (c.deref.result.now ++ ahead c)) (sym c.geometry-g.ensures.value)
    (subst (λ (hs : List ZoneRun). AreFreeRuns c.self.inside.map.now.geometry hs) (sym (ap (λ (hs : List ZoneRun). hs ++ ahead c) c.deref.ensures.value ∙ c.meet.ensures.same)) c.self.invariant.free)

enough : (c : After-deref) → IsMetFor (units c.geometry-g.result.now c.args.bytes) c.deref.result.now (ahead c)
enough c =
    subst (λ (n : ℕ). IsMetFor n c.deref.result.now (ahead c)) c.units.ensures
    (subst (λ (hs : List ZoneRun). IsMetFor c.units.result hs (ahead c)) (sym c.deref.ensures.value) c.in_ok-meet.ensures.met)

-- what holds of them holds of all of the supply's
moved : (c : After-deref) (P : Geometry → List ZoneRun → Type 0) → P c.geometry-g.result.now (c.deref.result.now ++ ahead c) → P c.args.self.now.geometry c.args.self.now.holes
moved c P p = subst (λ (g : Geometry). P g c.args.self.now.holes) (same_geometry c) (subst (λ (hs : List ZoneRun). P c.geometry-g.result.now hs) (both c) p)

-- ---- what is taken

pub cut_first-requires-clause-holes : goal.cut_first-requires-clause-holes
cut_first-requires-clause-holes c =
    let a = (goal.at.cut_first-requires-clause-holes c).After-deref in
    free_of_met c.geometry-g.result.now c.deref.result.now (ahead a) (free a)

pub invariant_of-self-2 : goal.invariant_of-self-2
invariant_of-self-2 c =
    let a = (goal.at.invariant_of-self-2 c).After-deref in
    let walked = c.meet.ensures.walked in
    record {
      of_record = c.self.invariant.of_record;
      free = subst (λ (g : Geometry). AreFreeRuns g (c.in_ok-cut.cut.left.items ++ ahead a)) c.geometry-g.ensures.value (c.in_ok-cut.ensures.free (ahead a) (free a));
      walked = record { left = walked.left; stands = walked.stands; ahead = walked.ahead; few = walked.few };
    }

pub returns-clause-cut : goal.returns-clause-cut
returns-clause-cut c =
    let a = (goal.at.returns-clause-cut c).After-deref in
    let parts = fronts c.in_ok-cut.cut.parts.items in
    moved a (λ g hs. AreParts g hs parts) (parts_of_met c.geometry-g.result.now c.deref.result.now (ahead a) parts c.in_ok-cut.ensures.cut)

pub returns-clause-rest : goal.returns-clause-rest
returns-clause-rest c =
    let a = (goal.at.returns-clause-rest c).After-deref in
    let g = c.geometry-g.result.now in
    let parts = fronts c.in_ok-cut.cut.parts.items in
    ap₂ (λ (s : Stock) (hs : List ZoneRun). let left : Stock = record { geometry = s.geometry; holes = hs; ids = s.ids } in left) c.self.view_is
    (ap (λ (hs : List ZoneRun). hs ++ ahead a) c.in_ok-cut.ensures.left
    ∙ sym (left_of_met g c.deref.result.now (ahead a) parts (min_some g (of_record a)) (free a) c.in_ok-cut.ensures.cut.once)
    ∙ ap (λ (hs : List ZoneRun). holes_left hs parts) (both a))

pub returns-clause-fit : goal.returns-clause-fit
returns-clause-fit c =
    let a = (goal.at.returns-clause-fit c).After-deref in
    let g = c.geometry-g.result.now in
    let taken : Option (List Part) = Some c.in_ok-cut.cut.parts.items in
    moved a (λ g hs. option_map (map part_of) (first_fit g (units g c.args.bytes) hs) ≡ taken)
    (ap (option_map (map part_of)) (fit_of_met g (units g c.args.bytes) c.deref.result.now (ahead a) (enough a)) ∙ c.in_ok-cut.ensures.fit)

pub returns-in_err-cut-clause-full : goal.returns-in_err-cut-clause-full
returns-in_err-cut-clause-full c = λ e.
    (let a = (goal.at.returns-in_err-cut-clause-full c).After-deref in
    let g = c.geometry-g.result.now in
    let none : first_fit g (units g c.args.bytes) c.deref.result.now ≡ None = search rules in
    moved a (λ k hs. first_fit k (units k c.args.bytes) hs ≡ None) (fit_of_met g (units g c.args.bytes) c.deref.result.now (ahead a) (enough a) ∙ none))
