-- Both steps of a change of space on a new map, as one edit of it.
use Rattle.std.proofs.Common.{◌≡◌, ◌<◌, inl, ℕ, Bool, true, false, cond, List, [], ◌∷◌, ◌++◌, filter, flat_map, refl, sym, ap, ap₂, subst, ◌∙◌, arith, Option, Some, None}
use Rattle.std.specs.Prelude.{◌&&◌, Contains, IsPermutation, not}
use Rattle.std.specs.List.{AllByRecursion}
use Rattle.std.specs.Option.{option_to_list}
use Rattle.fc_bytes.specs.Bits.{bits}
use Rattle.fc_record.specs.declared.Geometry.{Geometry}
use Rattle.fc_zone.specs.declared.RunKind.TheVariants as kinds
use Rattle.fc_zone.specs.Zone.{hole_starts}
use Rattle.fc_newmap.specs.Map.{Map, ZoneRun, all_runs, hole_runs, id_runs, is_hole, runs_in, runs_of, search_order, sector_of, shape}
use Rattle.fc_newmap.specs.NewMap.{IsNewMap}
use Rattle.fc_newmap.specs.Edits.{KeepsRuns}
use Rattle.fc_newmap.proofs.ComposeLemmas.{same_none, same_then}
use Rattle.fc_image.specs.effects.Placed.{holes_left}
use Rattle.fc_image.specs.effects.Steady.{has_id_that, holes_with, runs_that, zone_holes}
use Rattle.fc_plan.specs.declared.plan.Part.{Part}
use Rattle.fc_plan.specs.declared.plan.Plan.{Plan}
use Rattle.fc_plan.specs.Applied.{id_in, parts_in}
use Rattle.fc_plan.specs.Giving.{is_given, is_one_of, stays_given}
use Rattle.fc_plan.specs.Parts.{fronts}
use Rattle.fc_plan.specs.Taking.{as_runs, own_of, runs_taken}
use Rattle.fc_plan.proofs.Applies.{no_parts, staying}
use Rattle.fc_plan.proofs.Composed.{given_at_holes}
use Rattle.fc_plan.proofs.Left.{left_of_none}
use Rattle.fc_changes.specs.Owed.{IsSpaceEdit}
use Rattle.fc_changes.specs.Space.{HasTaken, IsMapEdited}
use Rattle.fc_changes.proofs.StepsLemmas.{Kept, ids_same, steps_law, took}
use Rattle.fc_writing.specs.declared.ready.MapStep.{MapStep}
use Rattle.fc_writing.specs.declared.ready.MapStep.TheVariants as steps
use Rattle.fc_writing.specs.declared.ready.RootPlace.{RootPlace}
use Rattle.fc_writing.specs.declared.ready.SpaceStep.{SpaceStep}
use Rattle.fc_writing.specs.Steps.{HasEdited, HasMoved, HasStepped, rooted_map}
use Rattle.fc_change.specs.Steps.{IsSpaceStep, IsStep}
use Rattle.fc_commands.proofs.RowLemmas.{same_runs}
use Rattle.fc_changes.proofs.CommittedLemmas.{all_same}
use Rattle.fc_laws.proofs.lemmas.agree.MapLemmas.{no_id as none_goes}
use Rattle.fc_zone.proofs.ZoneLemmas.{Contains-head as contains_here, Contains-tail as contains_later}
pub use Rattle.fc_changes.proofs.lemmas.growth.MapLemmas.{runs_all as every_same}

-- ---- a map as it is

each_of : {X : Type 0} (P : X → Type 0) (xs : List X) → ((x : X) → Contains xs x → P x) → AllByRecursion P xs
each_of P [] all = tt
each_of P (x ∷ xs) all = (all x (contains_here x xs), each_of P xs (λ y at. all y (contains_later x xs y at)))

pub edited_same : (m : Map) → IsNewMap m → IsMapEdited m m
edited_same m is = record {
  is_map = is;
  geometry = refl;
  record_stays = refl;
  zones = λ z low. record { header = refl; behind = refl };
  links = λ z low. record { free_link = inl refl; fields = each_of (Kept (shape m.geometry z) (bits (sector_of m z)) (bits (sector_of m z)) (runs_of m z)) (hole_starts (runs_of m z)) (λ at there. inl (there, refl)) };
}

-- ---- the same runs

pub holes_same : (m m' : Map) → KeepsRuns m m' → hole_runs m' ≡ hole_runs m
holes_same m m' kept = ap (filter (λ (p : ZoneRun). is_hole p.1.kind)) (every_same m m' kept)

-- what was taken of a map of the same runs
taken_after : (m first m' : Map) (id : ℕ) (parts : List ZoneRun) → KeepsRuns m first → HasTaken first m' id parts → HasTaken m m' id parts
taken_after m first m' id parts kept taken = record {
  geometry = taken.geometry ∙ kept.geometry;
  runs = λ z low. taken.runs z (subst (λ (g : Geometry). z < g.zones) (sym kept.geometry) low) ∙ ap (runs_taken id parts z) (kept.runs z);
  holes = taken.holes ∙ ap (λ (hs : List ZoneRun). holes_left hs parts) (holes_same m first kept);
  own = taken.own
      ∙ ap (flat_map (own_of id parts)) (ap (λ (g : Geometry). runs_in first (search_order g id)) kept.geometry ∙ all_same m first kept (search_order m.geometry id));
  gained = subst (λ (runs : List ZoneRun). IsPermutation (id_runs m' id) (runs ++ as_runs id parts)) (ids_same m first kept id) taken.gained;
  others = λ other ne. taken.others other ne ∙ ids_same m first kept other;
}

-- ---- nothing goes back

nothing_given : (ps : List ZoneRun) → filter (is_given [] []) ps ≡ []
nothing_given [] = refl
nothing_given (p ∷ ps) = ap₂ (λ (b : Bool) (qs : List ZoneRun). cond (b && true) (p ∷ qs) qs) (none_goes p.1.kind) (nothing_given ps)

all_stay : (ps : List ZoneRun) → filter (stays_given [] []) ps ≡ ps
all_stay [] = refl
all_stay (p ∷ ps) = ap₂ (λ (b : Bool) (qs : List ZoneRun). cond (not (b && true)) (p ∷ qs) qs) (none_goes p.1.kind) (all_stay ps)

pub given_none : (m : Map) → runs_that (is_one_of []) m ≡ []
given_none m = none (all_runs m)
  where
    none : (ps : List ZoneRun) → filter (λ (p : ZoneRun). has_id_that (is_one_of []) p.1.kind) ps ≡ []
    none [] = refl
    none (p ∷ ps) = ap₂ (λ (b : Bool) (qs : List ZoneRun). cond b (p ∷ qs) qs) (none_goes p.1.kind) (none ps)

-- ---- a step of space

-- of the map m, as it was found on a map w
module _ (w m m' : Map) (plans : List Plan) (gone : List ℕ) (s : SpaceStep) (is : IsSpaceStep w plans gone [] None s) (done : HasEdited m m' s) where
  pub step_edited : IsMapEdited m m'
  step_edited = subst (λ (o : Option RootPlace). IsMapEdited (rooted_map o m) m') is.root_is done.edited

  pub step_moved : HasMoved m m' plans gone []
  step_moved =
      subst (λ (ks : List Part). HasMoved m m' plans gone ks) is.kept_are
      (subst (λ (gs : List ℕ). HasMoved m m' plans gs s.kept.items) is.gone_are (subst (λ (ps : List Plan). HasMoved m m' ps s.gone.items s.kept.items) is.plans_are done.moved))

-- ---- the first step: a plan is taken, if there is one

-- The plan's parts are its identifier's runs; without a plan the runs are as they were.
abbrev pub IsTakenBy : Map → Map → Option Plan → Type 0
IsTakenBy m mid None = KeepsRuns m mid
IsTakenBy m mid (Some p) = HasTaken m mid p.id (fronts p.parts.items)

module _ (m mid : Map) (edited : IsMapEdited m mid) where
  -- if nothing goes back, what is taken is all
  whole : (plans : List Plan) (moved : HasMoved m mid plans [] []) → KeepsRuns moved.taken mid
  whole plans moved =
      same_runs moved.taken mid moved.is_map edited.is_map (edited.geometry ∙ sym moved.geometry)
      (λ z low. moved.holes z (subst (λ (g : Geometry). z < g.zones) moved.geometry low)
      ∙ ap (λ (gs : List ZoneRun). holes_with (zone_holes (hole_runs moved.taken) z) (zone_holes gs z)) (nothing_given (all_runs moved.taken)))
      (λ id. moved.of_ids id ∙ all_stay (id_runs moved.taken id))

  taken_by : (plan : Option Plan) → HasMoved m mid (option_to_list plan) [] [] → IsTakenBy m mid plan
  taken_by None moved = same_then m moved.first mid moved.same_runs (subst (λ (x : Map). KeepsRuns x mid) moved.takes (whole [] moved))
  taken_by (Some p) moved =
      let takes = moved.takes in
      taken_after m moved.first mid p.id (fronts p.parts.items) moved.same_runs
      (took moved.first takes.0 mid p.id (fronts p.parts.items) takes.2 (subst (λ (x : Map). KeepsRuns x mid) takes.3 (whole (p ∷ []) moved)))

pub first_step : (m mid : Map) (plan : Option Plan) (step : MapStep) → IsNewMap m → IsStep m (option_to_list plan) [] [] None step → HasStepped m mid step → IsMapEdited m mid × IsTakenBy m mid plan
first_step m mid plan (steps.New s) is at done =
    let edited = step_edited m m mid (option_to_list plan) [] s at done in (edited, taken_by m mid edited plan (step_moved m m mid (option_to_list plan) [] s at done))
first_step m mid plan (steps.Old space) is at done = absurd at
first_step m mid None steps.Nothing is at done = subst (λ (x : Map). IsMapEdited m x × KeepsRuns m x) (sym done) (edited_same m is, same_none m is)
first_step m mid (Some p) steps.Nothing is at done = absurd (let none = at.plans_are in cc)

-- ---- the second: identifiers go back

module _ (m m' : Map) (gone : List ℕ) (is : IsNewMap m) where
  given_by : HasMoved m m' [] gone [] → IsSpaceEdit m m' 0 [] gone
  given_by moved =
      let kept : KeepsRuns m moved.taken = subst (λ (x : Map). KeepsRuns m x) (sym moved.takes) moved.same_runs in
      record {
        holes = λ z low.
            moved.holes z low
            ∙ ap₂ (λ (hs gs : List ZoneRun). holes_with (zone_holes hs z) (zone_holes gs z)) (holes_same m moved.taken kept ∙ sym (left_of_none (hole_runs m)))
            (ap (filter (is_given gone [])) (every_same m moved.taken kept) ∙ given_at_holes m gone [] is (no_parts m));
        own = λ some. absurd (omega (arith, some));
        others = λ k other. moved.of_ids k ∙ ap (filter (stays_given gone [])) (ids_same m moved.taken kept k) ∙ staying m gone [] k is (no_parts m);
      }

pub nothing_edit : (m : Map) → IsSpaceEdit m m 0 [] []
nothing_edit m = record {
  holes = λ z low. ap₂ (λ (hs gs : List ZoneRun). holes_with (zone_holes hs z) (zone_holes gs z)) (sym (left_of_none (hole_runs m))) (sym (given_none m));
  own = λ some. absurd (omega (arith, some));
  others = λ k other. refl;
}

pub second_step : (w m m' : Map) (gone : List ℕ) (step : MapStep) → IsNewMap m → IsStep w [] gone [] None step → HasStepped m m' step → IsMapEdited m m' × IsSpaceEdit m m' 0 [] gone
second_step w m m' gone (steps.New s) is at done = (step_edited w m m' [] gone s at done, given_by m m' gone is (step_moved w m m' [] gone s at done))
second_step w m m' gone (steps.Old space) is at done = absurd at
second_step w m m' gone steps.Nothing is at done =
    subst (λ (x : Map). IsMapEdited m x × IsSpaceEdit m x 0 [] gone) (sym done) (edited_same m is, subst (λ (gs : List ℕ). IsSpaceEdit m m 0 [] gs) (sym at.gone_are) (nothing_edit m))

-- Where there is nothing to do, the map stays as it is.
pub no_step : (w m m' : Map) (step : MapStep) → IsStep w [] [] [] None step → HasStepped m m' step → m' ≡ m
no_step w m m' (steps.New s) is done = absurd (is.some (record { plans_are = refl; gone_are = refl; root_is = refl }))
no_step w m m' (steps.Old space) is done = absurd is
no_step w m m' steps.Nothing is done = done

-- ---- both

same_given : (m mid m' : Map) (gone : List ℕ) → KeepsRuns m mid → IsSpaceEdit mid m' 0 [] gone → IsSpaceEdit m m' 0 [] gone
same_given m mid m' gone kept given = record {
  holes = λ z low.
      given.holes z (subst (λ (g : Geometry). z < g.zones) (sym kept.geometry) low)
      ∙ ap₂ (λ (hs gs : List ZoneRun). holes_with (zone_holes (holes_left hs []) z) (zone_holes gs z)) (holes_same m mid kept)
      (ap (filter (λ (p : ZoneRun). has_id_that (is_one_of gone) p.1.kind)) (every_same m mid kept));
  own = λ some. absurd (omega (arith, some));
  others = λ k other. given.others k other ∙ ap (λ (runs : List ZoneRun). cond (is_one_of gone k) [] runs) (ids_same m mid kept k);
}

-- The plan that is taken isn't one of an identifier that goes back.
abbrev pub StaysTaken : Option Plan → List ℕ → Type 0
StaysTaken None gone = Unit {0}
StaysTaken (Some p) gone = is_one_of gone p.id ≡ false

both_space : (m mid m' : Map) (plan : Option Plan) (gone : List ℕ) → IsNewMap m → IsMapEdited m mid → IsTakenBy m mid plan → IsMapEdited mid m' → IsSpaceEdit mid m' 0 [] gone → StaysTaken plan gone
    → IsSpaceEdit m m' (id_in plan) (parts_in plan) gone
both_space m mid m' None gone is a kept b given stays = same_given m mid m' gone kept given
both_space m mid m' (Some p) gone is a taken b given stays = steps_law.taken m mid m' p.id (fronts p.parts.items) gone is a taken b given stays

-- A change of a map: what is taken, and later what goes back.
pub record IsTwoStepped (m m' : Map) (plan : Option Plan) (gone : List ℕ) : Type 0 where
  pub edited : IsMapEdited m m'
  pub space : IsSpaceEdit m m' (id_in plan) (parts_in plan) gone

-- Both steps are found on the map before; the second is made of the map between.
pub both_steps : (m mid m' : Map) (plan : Option Plan) (gone : List ℕ) (take give : MapStep) → IsNewMap m → IsStep m (option_to_list plan) [] [] None take → IsStep m [] gone [] None give
    → HasStepped m mid take → HasStepped mid m' give → StaysTaken plan gone → IsTwoStepped m m' plan gone
both_steps m mid m' plan gone take give is takes gives first second stays =
    let a = first_step m mid plan take is takes first in
    let b = second_step m mid m' gone give a.0.is_map gives second in
    record { edited = steps_law.edited m mid m' a.0 b.0; space = both_space m mid m' plan gone is a.0 a.1 b.0 b.1 stays }
