-- Second steps that only give space back.
use Rattle.std.proofs.Common.{◌≡◌, ◌<◌, ℕ, Bool, true, false, cond, List, [], ◌∷◌, filter, refl, sym, ap, ap₂, subst, ◌∙◌, arith, Ok, Err, Option, None, All, eq-eqb}
use Rattle.std.specs.Prelude.{◌||◌, AllPairs, Contains, IfSome, IsSome}
use Rattle.std.specs.List.{list_any}
use Rattle.std.proofs.lemmas.Bool.{false_from_ne_true}
use Rattle.fc_record.specs.declared.Geometry.{Geometry}
use Rattle.fc_zone.specs.declared.Run.{Run}
use Rattle.fc_zone.specs.declared.RunKind.{RunKind}
use Rattle.fc_zone.specs.declared.RunKind.TheVariants as kinds
use Rattle.fc_newmap.specs.Map.{Map, ZoneRun, all_runs, has_id, hole_runs, id_runs, runs_of, zone_numbers}
use Rattle.fc_newmap.specs.NewMap.{IsNewMap}
use Rattle.fc_newmap.specs.RunsLaw.{placed}
use Rattle.fc_newmap.specs.Edits.{KeepsRuns}
use Rattle.fc_newmap.proofs.HeldLemmas.{geometry_facts}
use Rattle.fc_newmap.proofs.PlaceLemmas.{contains_cases, contains_none, id_run_in, in_id_runs, in_range, in_zone, zone_in}
use Rattle.fc_image.proofs.EntriesLemmas.{from_filter}
use Rattle.fc_image.specs.effects.Placed.{BeginsBefore}
use Rattle.fc_image.specs.effects.Steady.{has_id_that}
use Rattle.fc_plan.specs.declared.plan.Part.{Part}
use Rattle.fc_plan.specs.declared.plan.Plan.{Plan}
use Rattle.fc_plan.specs.Applied.{is_changed as changes}
use Rattle.fc_plan.specs.Giving.{has_run_of, is_one_of, stays_given}
use Rattle.fc_plan.specs.Parts.{fronts}
use Rattle.fc_changes.specs.Space.{zones_changed}
use Rattle.fc_changes.proofs.StepsLemmas.{steps_law, unlisted, zones_low, zones_rise}
use Rattle.fc_writing.specs.declared.ready.RootPlace.{RootPlace}
use Rattle.fc_writing.specs.Laws.{LaterLaw}
use Rattle.fc_writing.specs.Steps.{AreTaken, CanRoot, CanTakeAll, is_changed}
use Rattle.fc_writing.proofs.ContentLemmas.{clash}
use Rattle.fc_writing.proofs.StepLemmas.{rooted_geometry}
use Rattle.fc_zone.proofs.ZoneLemmas.{Contains-head as contains_here, Contains-tail as contains_later}

same_filter : (p q : ℕ → Bool) (xs : List ℕ) → ((x : ℕ) → p x ≡ q x) → filter p xs ≡ filter q xs
same_filter p q [] same = refl
same_filter p q (x ∷ xs) same = ap₂ (λ (b : Bool) (ys : List ℕ). cond b (x ∷ ys) ys) (same x) (same_filter p q xs same)

module _ (gone : List ℕ) where
  -- taking parts of other identifiers changes nothing of what goes back
  chain : (m n : Map) (plans : List Plan) → AreTaken m plans n → ((p : Plan) → Contains plans p → is_one_of gone p.id ≡ false) → zones_changed n None gone ≡ zones_changed m None gone
  chain m n [] same others = ap (λ (x : Map). zones_changed x None gone) same
  chain m n (p ∷ plans) taken others =
      chain taken.0 n plans taken.3 (λ q at. others q (contains_later p plans q at))
      ∙ steps_law.listed m taken.0 p.id (fronts p.parts.items) gone taken.2 (others p (contains_here p plans))

  first_same : (m first : Map) → KeepsRuns m first → zones_changed first None gone ≡ zones_changed m None gone
  first_same m first kept =
      same_filter (changes first None None gone) (changes m None None gone) (zone_numbers first.geometry) (λ z. ap (has_run_of gone) (kept.runs z))
      ∙ ap (λ (g : Geometry). filter (changes m None None gone) (zone_numbers g)) kept.geometry

  -- ---- a run that goes back

  abbrev goes : Run → Bool
  goes run = has_id_that (is_one_of gone) run.kind

  found : (runs : List Run) → list_any goes runs ≡ true → (run : Run) × Contains runs run × (goes run ≡ true)
  found [] e = cc
  found (run ∷ runs) e = by (goes run) refl (found runs)
    where
      by : (b : Bool) → goes run ≡ b → (list_any goes runs ≡ true → (r : Run) × Contains runs r × (goes r ≡ true)) → (r : Run) × Contains (run ∷ runs) r × (goes r ≡ true)
      by true is later = (run, contains_here run runs, is)
      by false is later = let there = later (ap (λ (b : Bool). b || list_any goes runs) (sym is) ∙ e) in (there.0, contains_later run runs there.0 there.1, there.2)

  id_of : (kind : RunKind) → has_id_that (is_one_of gone) kind ≡ true → (k : ℕ) × (has_id k kind ≡ true) × (is_one_of gone k ≡ true)
  id_of kinds.Hole e = cc
  id_of (kinds.Id k) e = (k, eq-eqb k k refl, e)

  put : (z : ℕ) (runs : List Run) (run : Run) → Contains runs run → Contains (placed z runs) (z, run)
  put z [] run at = absurd (contains_none run at)
  put z (r ∷ runs) run at = elim (contains_cases r runs run at) [
    | Ok here ↦ subst (λ (x : Run). Contains (placed z (r ∷ runs)) (z, x)) here (contains_here (z, r) (placed z runs))
    | Err later ↦ contains_later (z, r) (placed z runs) (z, run) (put z runs run later)
  ]

  met : (z : ℕ) (runs : List Run) (run : Run) → goes run ≡ true → Contains (placed z runs) (z, run) → list_any goes runs ≡ true
  met z [] run e at = absurd (contains_none (z, run) at)
  met z (r ∷ runs) run e at = elim (contains_cases (z, r) (placed z runs) (z, run) at) [
    | Ok here ↦ ap (λ (b : Bool). b || list_any goes runs) (ap (λ (p : ZoneRun). goes p.1) here ∙ e)
    | Err later ↦ any_later (goes r) (met z runs run e later)
  ]
    where
      any_later : (b : Bool) → list_any goes runs ≡ true → (b || list_any goes runs) ≡ true
      any_later true h = refl
      any_later false h = h

  -- what has no run that goes back before others went has none afterwards
  none_left : (mid taken : Map) (test : ℕ → ZoneRun → Bool) → IsNewMap mid → IsNewMap taken → ((id : ℕ) → id_runs mid id ≡ filter (test id) (id_runs taken id)) → (z : ℕ) → z < mid.geometry.zones
      → has_run_of gone (runs_of taken z) ≡ false → has_run_of gone (runs_of mid z) ≡ false
  none_left mid taken test is is_taken of_ids z low none =
      false_from_ne_true (has_run_of gone (runs_of mid z)) (λ yes.
      let run = found (runs_of mid z) yes in
      let id = id_of run.0.kind run.2 in
      let p : ZoneRun = (z, run.0) in
      let among : Contains (all_runs mid) p = in_zone mid (zone_numbers mid.geometry) p (in_range 0 mid.geometry.zones z (omega arith) (omega (arith, low))) (put z (runs_of mid z) run.0 run.1) in
      let own : Contains (id_runs mid id.0) p = in_id_runs mid id.0 p (geometry_facts mid.geometry is.of_record).zones among id.1 in
      let before : Contains (id_runs taken id.0) p = from_filter (test id.0) (id_runs taken id.0) p (subst (λ (xs : List ZoneRun). Contains xs p) (of_ids id.0) own) in
      let there = zone_in taken (zone_numbers taken.geometry) p (id_run_in taken id.0 p (geometry_facts taken.geometry is_taken.of_record).zones before).0 in
      clash (has_run_of gone (runs_of taken z)) (met z (runs_of taken z) run.0 run.2 there.1) none)

pub later_law : LaterLaw
later_law m mid first later is done gives =
    let moved = done.moved in
    let gone = later.gone.items in
    let same : zones_changed moved.taken None gone ≡ zones_changed m None gone = chain gone moved.first moved.taken first.plans.items moved.takes gives.others ∙ first_same gone m moved.first moved.same_runs in
    let geometry : mid.geometry ≡ m.geometry = done.edited.geometry ∙ rooted_geometry m first.root in
    record {
      plans = subst (λ (ps : List Plan). CanTakeAll mid.geometry (hole_runs mid) ps) (sym gives.nothing) tt;
      kept = subst (λ (ks : List Part). AllPairs BeginsBefore (fronts ks)) (sym gives.none_kept) (λ i j d less low. absurd (omega (arith, low, less)));
      root = subst (λ (o : Option RootPlace). IfSome o (CanRoot mid)) (sym gives.no_root) tt;
      rising = zones_rise m None gone later.zones.items gives.zones;
      low = subst (λ (g : Geometry). All (λ z. z < g.zones) later.zones.items) (sym geometry) (zones_low m None gone later.zones.items gives.zones);
      all = λ z low none.
          subst (λ (ps : List Plan). is_changed mid ps gone z ≡ false) (sym gives.nothing)
          (none_left gone mid moved.taken (λ id p. stays_given first.gone.items (fronts first.kept.items) p) done.edited.is_map moved.is_map moved.of_ids z low
          (unlisted moved.taken None gone later.zones.items (gives.zones ∙ sym same) z (subst (λ (g : Geometry). z < g.zones) (geometry ∙ sym moved.geometry) low) none));
      first = λ some. absurd (let no : IsSome {T = RootPlace} None = subst (λ (o : Option RootPlace). IsSome o) gives.no_root some in cc);
    }
