-- The space of a job that needs no new object: one plan, for the identifier of the directory that is rewritten, and one step of the map.
use Rattle.std.proofs.Common.{◌≡◌, ◌^◌, ◌==◌, append-nil, get_or, ◌<◌, ◌≤◌, ◌&&◌, ◌||◌, inr, ℕ, zero, suc, Bool, true, false, not, cond, List, [], ◌∷◌, filter, length, map, refl, sym, ap, ap₂, subst, ◌∙◌, arith, eq-eqb, Option, Some, None}
use Rattle.std.specs.Prelude.{All, Contains, IfSome, IsPermutation, IsSome, is_none, is_some, nat_lt}
use Rattle.std.specs.List.{find}
use Rattle.std.specs.List.Sorted.{IsStrictlyIncreasing}
use Rattle.std.proofs.lemmas.Bool.{le-ltb, lt-ltb}
use Rattle.std.proofs.lemmas.List.FromFn.{get_or-range_with_len, length-range_with_len}
use Rattle.std.proofs.lemmas.List.Kept.{IsStrictlyIncreasing-filter}
use Rattle.std.proofs.lemmas.List.Elements.{Contains-append_left, Contains-get_or}
use Rattle.std.proofs.lemmas.List.Sorted.{Contains-permutation, IsPermutation-map, IsPermutation-sym, list_any-IsPermutation}
use Rattle.fc_dirs.proofs.SearchLemmas.{is_some-find}
use Rattle.fc_record.specs.declared.Geometry.{Geometry}
use Rattle.fc_record.specs.Record.{id_limit}
use Rattle.fc_newmap.specs.Map.{Map, ZoneRun, hole_runs, id_runs, zone_numbers}
use Rattle.fc_image.specs.effects.Placed.{stands_at}
use Rattle.fc_image.specs.effects.Sharing.{new_ids, units}
use Rattle.fc_image.specs.effects.Steady.{has_id_that}
use Rattle.fc_image.specs.safe.SafeShort.{fitted}
use Rattle.fc_plan.specs.declared.plan.Part.{Part}
use Rattle.fc_plan.specs.declared.plan.Plan.{Plan}
use Rattle.fc_plan.specs.Applied.{CanTakePlan, IsTakenIn}
use Rattle.fc_plan.specs.Giving.{is_one_of, stays_given}
use Rattle.fc_plan.specs.Parts.{front_at, fronts}
use Rattle.fc_plan.proofs.Applies.{dir_taken}
use Rattle.fc_plan.proofs.Plans.{min_some}
use Rattle.fc_tree.proofs.MemberLemmas.{in_filter, no_element}
use Rattle.fc_changes.specs.Space.{HasTaken, IsMapEdited}
use Rattle.fc_changes.proofs.StepsLemmas.{low_in_range, range_rises}
use Rattle.fc_placing.proofs.LeavingLemmas.{from_kept}
use Rattle.fc_writing.specs.declared.ready.MapStep.{MapStep}
use Rattle.fc_writing.specs.declared.ready.MapStep.TheVariants as steps
use Rattle.fc_writing.specs.declared.ready.RootPlace.{RootPlace}
use Rattle.fc_writing.specs.declared.ready.SpaceStep.{SpaceStep}
use Rattle.fc_writing.specs.Steps.{AreTaken, CanEdit, CanRoot, CanTakeAll, HasEdited, HasMoved, is_changed, rooted_map}
use Rattle.fc_writing.proofs.StepLemmas.{can_rooted}
use Rattle.fc_edits.specs.NewNodes.{AreDistinct}
use Rattle.fc_edits.specs.NewPlaces.{IsSpaceChange}
use Rattle.fc_change.specs.declared.job.Growth.{Growth}
use Rattle.fc_change.specs.declared.spaces.GrownPlace.{GrownPlace}
use Rattle.fc_change.specs.declared.spaces.Place.{Place}
use Rattle.fc_change.specs.declared.spaces.Spaces.{Spaces}
use Rattle.fc_change.specs.GrownSpace.{root_of}
use Rattle.fc_change.specs.Places.{IsPlaceFor}
use Rattle.fc_change.proofs.LeadsLemmas.{IsPlaceable}
use Rattle.fc_safe.specs.declared.needs.Need.{Need}
use Rattle.fc_safe.specs.FirstNeeds.{first_gone}
use Rattle.fc_safe.specs.FirstSpace.{ArePlacedFirst, IsFirstStep, IsGrownFirst, IsStepFirst, parts_kept}
use Rattle.fc_safe.specs.Needs.{AreMet, HaveIds, parts_of}
use Rattle.fc_safe.specs.Zones.{is_turned}
use Rattle.fc_safe.proofs.CoverLemmas.{fronts_in_zones}
use Rattle.fc_safe.proofs.ListLemmas.{any_of}
use Rattle.fc_safe.proofs.TakingLemmas.{CanHave, take_all}
use Rattle.fc_safeedits.specs.SafeSpace.{SafeSpaceLaw, TakesAndGives, takings_of}
use Rattle.fc_safecommands.proofs.FitLemmas.{first_enough, one_fitted}
use Rattle.fc_safecommands.proofs.PlainLemmas.{PlainJob, can_need, end, end_some, h, i, id_low, need, needs_are}

module _ (x : PlainJob) (s : Spaces) (placed : ArePlacedFirst x.m (h x) x.job x.wants s) where
  abbrev g : Geometry
  g = x.m.geometry

  -- ---- the plan

  met : AreMet x.m (need x ∷ []) placed.plans
  met = subst (λ (ns : List Need). AreMet x.m ns placed.plans) (needs_are x) placed.met

  pub one : (q : Plan) × (placed.plans ≡ q ∷ []) × (q.id ≡ i x)
  one = by placed.plans met.ids
    where
      by : (plans : List Plan) → HaveIds (new_ids x.m) (need x ∷ []) plans met.left → (q : Plan) × (plans ≡ q ∷ []) × (q.id ≡ i x)
      by [] have = absurd have
      by (q ∷ []) have = (q, refl, have.1.0)
      by (q ∷ r ∷ plans) have = absurd have.2

  abbrev pub plan : Plan
  plan = one.0

  abbrev pub parts : List ZoneRun
  parts = fronts one.0.parts.items

  pub can : CanTakeAll g (hole_runs x.m) placed.plans
  can = take_all x.m x.agreed.is_map (need x ∷ []) placed.plans met (can_need x) old
    where
      one_id : (a b : ℕ) → (let o : Option ℕ = Some a in o) ≡ Some b → a ≡ b
      one_id a b e = cc

      old : (n : Need) (id : ℕ) → Contains (need x ∷ []) n → n.id ≡ Some id → CanHave x.m id
      old n id (zero, low, e) is =
          let same = one_id (i x) id (ap (λ (k : Need). k.id) e ∙ is) in
          let own = id_low x in
          let least = own.0 in
          let most = own.1 in
          let fits : id_limit g ≤ 2 ^ g.idlen = omega arith in
          record { some = omega (arith, least, same); fits = omega (arith, most, fits, same) }
      old n id (suc k, low, e) is = absurd (omega (arith, low))

  pub can_one : CanTakePlan g (hole_runs x.m) one.0
  can_one = (subst (CanTakeAll g (hole_runs x.m)) one.1 can).0

  pub placeable : IsPlaceable x.m (end x) one.0
  placeable =
      let fit : fitted x.m (units g (end x) ∷ []) (hole_runs x.m) ≡ Some (parts ∷ []) = met.fit ∙ ap (λ (ps : List Plan). let o : Option (List (List ZoneRun)) = Some (parts_of ps) in o) one.1 in
      let own = id_low x in
      let same = one.2 in
      let least = own.0 in
      let most = own.1 in
      record {
        some = end_some x;
        rising = can_one.rising;
        zones = λ p at. fronts_in_zones x.m x.agreed.is_map some_min (one.0 ∷ []) p (subst (CanTakeAll g (hole_runs x.m)) one.1 can) (Contains-append_left parts [] p at);
        long = can_one.cut.long;
        enough = first_enough g (units g (end x)) (hole_runs x.m) parts (one_fitted x.m (units g (end x)) parts fit);
        id_low = omega (arith, same, least);
        id_high = omega (arith, same, most);
      }
    where
      some_min : 0 < g.min
      some_min = min_some g x.agreed.is_map.of_record

  -- ---- what goes back

  abbrev pub gone : List ℕ
  gone = first_gone x.m (h x) x.job x.wants

  -- ---- the step

  pub none_grown : s.grown ≡ None
  none_grown = subst (λ (o : Option Growth). IsGrownFirst x.m (h x) o placed.plans s.grown) x.still placed.grown

  -- Nothing comes, so that nothing has a place.
  pub no_object : s.object ≡ None
  no_object = by s.object placed.object
    where
      by : (o : Option Place) → IsPlaceFor x.m x.wants placed.placing o → o ≡ None
      by None at = refl
      by (Some p) at = absurd (
          let bytes = x.no_bytes in
          let shares = ap is_none x.no_share in
          let none : (x.wants.bytes == 0 && is_none x.wants.shares) ≡ true = ap₂ (λ (a b : Bool). a && b) (eq-eqb x.wants.bytes 0 bytes) shares in
          let some : (x.wants.bytes == 0 && is_none x.wants.shares) ≡ false = at.2 in cc)

  pub step : (st : SpaceStep) × (s.take ≡ steps.New st) × IsFirstStep x.m placed.plans gone None st
  step = by s.take (subst (λ (o : Option GrownPlace). IsStepFirst x.m placed.plans gone (root_of o) s.take) none_grown placed.take)
    where
      by : (take : MapStep) → IsStepFirst x.m placed.plans gone None take → (st : SpaceStep) × (take ≡ steps.New st) × IsFirstStep x.m placed.plans gone None st
      by (steps.New st) is = (st, refl, is)
      by (steps.Old space) is = absurd is
      by steps.Nothing is = absurd is

  pub can_edit : CanEdit x.m step.0
  can_edit =
      let st = step.0 in
      let is = step.2 in
      record {
        plans = subst (CanTakeAll g (hole_runs x.m)) (sym is.plans_are) can;
        kept = is.kept_rise;
        root = subst (λ (o : Option RootPlace). IfSome o (CanRoot x.m)) (sym is.root_is) tt;
        rising = subst IsStrictlyIncreasing (sym is.zones) (IsStrictlyIncreasing-filter (is_turned x.m placed.plans gone false) (zone_numbers g) (range_rises 0 g.zones));
        low = subst (λ (zs : List ℕ). All (λ z. z < g.zones) zs) (sym is.zones) (λ k e less.
            (let zs = filter (is_turned x.m placed.plans gone false) (zone_numbers g) in
            let low = low_in_range 0 g.zones (get_or zs k e) (from_kept (is_turned x.m placed.plans gone false) (zone_numbers g) (get_or zs k e) (Contains-get_or zs k e less)).0 in omega (arith, low)));
        all = λ z low none.
            subst (λ (ps : List Plan). is_changed x.m ps st.gone.items z ≡ false) (sym is.plans_are)
            (subst (λ (ids : List ℕ). is_changed x.m placed.plans ids z ≡ false) (sym is.gone_are) (unlisted z low (λ at. none (subst (λ (zs : List ℕ). Contains zs z) (sym is.zones) at))));
        first = λ some. absurd (let no : IsSome {T = RootPlace} None = subst (λ (o : Option RootPlace). IsSome o) is.root_is some in cc);
      }
    where
      unlisted : (z : ℕ) → z < g.zones → (Contains (filter (is_turned x.m placed.plans gone false) (zone_numbers g)) z → ⊥) → is_changed x.m placed.plans gone z ≡ false
      unlisted z low none = by (is_changed x.m placed.plans gone z) refl
        where
          by : (b : Bool) → is_changed x.m placed.plans gone z ≡ b → b ≡ false
          by false e = refl
          by true e = absurd (none (in_filter (is_turned x.m placed.plans gone false) (zone_numbers g) z
              (z, (let size = length-range_with_len 0 g.zones in omega (arith, size, low)), get_or-range_with_len 0 g.zones z z low ∙ omega arith)
              (ap₂ (λ (a b : Bool). a && (b || false)) (lt-ltb z g.zones low) e)))

  pub narrow : nat_lt 9 (length step.0.zones.items) ≡ false
  narrow = le-ltb 9 (length step.0.zones.items) (let few = step.2.few in omega (arith, few))

  -- The plan's identifier goes back, and so its parts are those that are kept.
  module _ (goes_one : is_one_of gone (i x) ≡ true) where
    kept_are : IsPermutation one.0.parts.items step.0.kept.items
    kept_are =
        subst (λ (ps : List Part). IsPermutation ps step.0.kept.items)
        (ap (λ (ps : List Plan). parts_kept ps gone) one.1 ∙ append-nil _ ∙ ap (λ (b : Bool). let qs : List Part = cond b one.0.parts.items [] in qs) (ap (is_one_of gone) one.2 ∙ goes_one))
        step.2.kept_are

    fronts_kept : IsPermutation parts (fronts step.0.kept.items)
    fronts_kept = IsPermutation-map front_at one.0.parts.items step.0.kept.items kept_are

    found_alike : (p : ZoneRun) → is_none (find (stands_at p) (fronts step.0.kept.items)) ≡ is_none (find (stands_at p) parts)
    found_alike p =
        not_some (find (stands_at p) (fronts step.0.kept.items))
        ∙ ap not (is_some-find (stands_at p) (fronts step.0.kept.items) ∙ sym (list_any-IsPermutation (stands_at p) parts (fronts step.0.kept.items) fronts_kept) ∙ sym (is_some-find (stands_at p) parts))
        ∙ sym (not_some (find (stands_at p) parts))
      where
        not_some : (o : Option ZoneRun) → is_none o ≡ not (is_some o)
        not_some None = refl
        not_some (Some q) = refl

    itself : (p : ZoneRun) → stands_at p p ≡ true
    itself p = ap₂ (λ (a b : Bool). a && b) (eq-eqb p.0 p.0 refl) (eq-eqb p.1.start p.1.start refl)

    found_own : (p : ZoneRun) → Contains parts p → is_none (find (stands_at p) parts) ≡ false
    found_own p at = by (find (stands_at p) parts) refl
      where
        by : (o : Option ZoneRun) → find (stands_at p) parts ≡ o → is_none o ≡ false
        by (Some q) e = refl
        by None e = absurd (
            let any = any_of (stands_at p) parts p at (itself p) in
            let none = sym (is_some-find (stands_at p) parts) ∙ ap is_some e in cc)

    pub takes_and_gives : TakesAndGives x.m placed.plans gone step.0.kept.items
    takes_and_gives = record {
      can = can;
      once = subst (λ (ps : List Plan). AreDistinct (map (λ (p : Plan). p.id) ps)) (sym one.1) ((λ at. no_element _ at), tt);
      ids = λ p at. inr (ap (is_one_of gone) (ap (λ (q : Plan). q.id) (sym (only p at)) ∙ one.2) ∙ goes_one);
      all_kept = λ p q at bt goes. found_alike q ∙ found_own q (subst (λ (r : Plan). Contains (fronts r.parts.items) q) (sym (only p at)) bt);
      kept_only = λ q at. (one.0, subst (λ (ps : List Plan). Contains ps one.0) (sym one.1) (0, omega arith, refl), Contains-permutation (fronts step.0.kept.items) parts q (IsPermutation-sym parts (fronts step.0.kept.items) fronts_kept) at);
    }
      where
        only : (p : Plan) → Contains placed.plans p → one.0 ≡ p
        only p at = by (subst (λ (ps : List Plan). Contains ps p) one.1 at)
          where
            by : Contains (one.0 ∷ []) p → one.0 ≡ p
            by (zero, low, e) = e
            by (suc k, low, e) = absurd (omega (arith, low))

    -- ---- after the step

    module _ (m' : Map) (done : HasEdited x.m m' step.0) where
      moved : HasMoved x.m m' placed.plans gone step.0.kept.items
      moved = subst (λ (ids : List ℕ). HasMoved x.m m' placed.plans ids step.0.kept.items) step.2.gone_are (subst (λ (ps : List Plan). HasMoved x.m m' ps step.0.gone.items step.0.kept.items) step.2.plans_are done.moved)

      pub edited : IsMapEdited x.m m'
      edited = subst (λ (o : Option RootPlace). IsMapEdited (rooted_map o x.m) m') step.2.root_is done.edited

      pub space : SafeSpaceLaw → IsSpaceChange x.m m' (takings_of placed.plans) gone
      space law = law x.m m' placed.plans gone step.0.kept.items x.agreed.is_map takes_and_gives moved

      -- The identifier has the plan's parts, and no other runs.
      pub taken : IsTakenIn m' one.0
      taken =
          let first = moved.first in
          let t = subst (λ (ps : List Plan). AreTaken moved.first ps moved.taken) one.1 moved.takes in
          let can_first = (subst (CanTakeAll moved.first.geometry (hole_runs moved.first)) one.1 (can_rooted x.m moved.first placed.plans moved.same_runs can)).0 in
          let has = subst (λ (n : Map). HasTaken moved.first n one.0.id parts) (sym t.3) t.2 in
          dir_taken first first moved.taken m' None (Some one.0) gone moved.same_runs.map moved.same_runs.map moved.is_map refl has.geometry (edited.geometry ∙ sym moved.geometry)
          tt tt can_first (inr (ap (is_one_of gone) one.2 ∙ goes_one)) tt tt tt (λ id other. refl) has.own has.gained (λ id other. has.others id other)
          (λ id. moved.of_ids id ∙ same_stay (id_runs moved.taken id))
        where
          same_stay : (ps : List ZoneRun) → filter (stays_given gone (fronts step.0.kept.items)) ps ≡ filter (stays_given gone parts) ps
          same_stay [] = refl
          same_stay (p ∷ ps) = ap₂ (λ (b : Bool) (qs : List ZoneRun). cond b (p ∷ qs) qs) (ap (λ (b : Bool). not (has_id_that (is_one_of gone) p.1.kind && b)) (found_alike p)) (same_stay ps)
