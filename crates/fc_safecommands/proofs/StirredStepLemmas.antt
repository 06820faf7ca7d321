-- The one step of the map of a job by which no directory grows: what it takes, what goes back, and what each plan's identifier has then.
use Rattle.std.proofs.Common.{◌≡◌, ◌<◌, ◌≤◌, ◌&&◌, ◌||◌, ◌⊎◌, inl, inr, ⊎_elim, ℕ, Bool, true, false, not, cond, get_or, List, [], ◌∷◌, ◌++◌, filter, length, map, refl, sym, ap, ap₂, subst, ◌∙◌, arith, Option, Some, None}
use Rattle.std.specs.Prelude.{All, Contains, IfSome, IsPermutation, IsSome, is_none, is_some, nat_lt}
use Rattle.std.specs.List.{find, list_any, range_with_len}
use Rattle.std.specs.List.Sorted.{IsStrictlyIncreasing}
use Rattle.std.proofs.lemmas.Bool.{and_parts, le-ltb, lt-ltb, ltb-true, or_cases}
use Rattle.std.proofs.lemmas.List.FromFn.{get_or-range_with_len, length-range_with_len}
use Rattle.std.proofs.lemmas.List.Kept.{IsStrictlyIncreasing-filter}
use Rattle.std.proofs.lemmas.List.Elements.{Contains-append_cases, Contains-get_or}
use Rattle.std.proofs.lemmas.List.Sorted.{Contains-permutation, IsPermutation-sym}
use Rattle.fc_alloc.specs.Owners.{owns}
use Rattle.fc_record.specs.declared.Geometry.{Geometry}
use Rattle.fc_record.specs.Record.{id_limit}
use Rattle.fc_newmap.specs.Map.{Map, ZoneRun, hole_runs, is_used, zone_numbers}
use Rattle.fc_image.specs.effects.Placed.{stands_at}
use Rattle.fc_image.specs.effects.Sharing.{new_ids}
use Rattle.fc_plan.specs.declared.plan.Part.{Part}
use Rattle.fc_plan.specs.declared.plan.Plan.{Plan}
use Rattle.fc_plan.specs.Applied.{IsTakenIn}
use Rattle.fc_plan.specs.Giving.{is_one_of}
use Rattle.fc_plan.specs.Parts.{front_at, fronts}
use Rattle.fc_plan.proofs.Taken.{stands_at-self}
use Rattle.fc_tree.proofs.MemberLemmas.{contains_here, from_map, in_filter, in_map, no_element}
use Rattle.fc_changes.specs.Space.{IsMapEdited}
use Rattle.fc_changes.proofs.StepsLemmas.{low_in_range, range_rises}
use Rattle.fc_placing.proofs.LeavingLemmas.{from_kept, none_or_some}
use Rattle.fc_writing.specs.declared.ready.MapStep.{MapStep}
use Rattle.fc_writing.specs.declared.ready.MapStep.TheVariants as steps
use Rattle.fc_writing.specs.declared.ready.RootPlace.{RootPlace}
use Rattle.fc_writing.specs.declared.ready.SpaceStep.{SpaceStep}
use Rattle.fc_writing.specs.Steps.{CanEdit, CanRoot, CanTakeAll, HasEdited, HasMoved, is_changed, rooted_map}
use Rattle.fc_edits.specs.NewNodes.{AreDistinct}
use Rattle.fc_edits.specs.NewPlaces.{IsSpaceChange}
use Rattle.fc_change.specs.declared.job.Growth.{Growth}
use Rattle.fc_change.specs.declared.spaces.GrownPlace.{GrownPlace}
use Rattle.fc_change.specs.declared.spaces.Spaces.{Spaces}
use Rattle.fc_change.specs.GrownSpace.{root_of}
use Rattle.fc_safe.specs.FirstNeeds.{Stir, first_gone, goes, gone_by, shared_by}
use Rattle.fc_safe.specs.FirstSpace.{ArePlacedFirst, IsFirstStep, IsGrownFirst, IsStepFirst, parts_kept}
use Rattle.fc_safe.specs.Gone.{is_left, is_lost_by}
use Rattle.fc_safe.specs.Zones.{is_turned}
use Rattle.fc_safe.proofs.ListLemmas.{from_flat, in_flat}
use Rattle.fc_safe.proofs.ZoneLemmas.{in_range}
use Rattle.fc_safeedits.specs.SafeSpace.{SafeSpaceLaw, TakesAndGives, takings_of}
use Rattle.fc_safecommands.proofs.StirredLemmas.{StirredJob, h, ids, leaving, moves, moves_high, own_bytes, stir, stir_is}
use Rattle.fc_safecommands.proofs.StirredSpaceLemmas.{can, of_ids, plan_cases, plan_ids, range_once, unused, used}
use Rattle.fc_safecommands.proofs.TakenLemmas.{all_taken}

module _ (x : StirredJob) where
  -- ---- what goes back

  abbrev pub gone : List ℕ
  gone = first_gone x.m (h x) x.job x.wants

  abbrev pub shared : Option ℕ
  shared = shared_by x.m x.owners x.wants

  pub gone_is : (k : ℕ) → is_one_of (first_gone x.m (h x) x.job x.wants) k ≡ (nat_lt k (id_limit x.m.geometry) && (moves x k || is_lost_by (leaving x) shared x.owners k))
  gone_is k = ap (λ (st : Stir). is_one_of (gone_by x.m (h x) st shared) k) (stir_is x) ∙ in_range (goes (h x) (stir x) shared) (id_limit x.m.geometry) k

  pub goes_moves : (k : ℕ) → moves x k ≡ true → is_one_of (first_gone x.m (h x) x.job x.wants) k ≡ true
  goes_moves k e = gone_is k ∙ ap₂ (λ (a b : Bool). a && (b || is_lost_by (leaving x) shared x.owners k)) (lt-ltb k (id_limit x.m.geometry) (moves_high x k e).1) e

  pub gone_low : (k : ℕ) → is_one_of (first_gone x.m (h x) x.job x.wants) k ≡ true → 3 ≤ k
  gone_low k e =
      ⊎_elim (λ moved. (moves_high x k moved).0) (λ lost. of_lost lost)
      (or_cases (moves x k) (is_lost_by (leaving x) shared x.owners k) (and_parts (nat_lt k (id_limit x.m.geometry)) (moves x k || is_lost_by (leaving x) shared x.owners k) (sym (gone_is k) ∙ e)).1)
    where
      of_lost : is_lost_by (leaving x) shared x.owners k ≡ true → 3 ≤ k
      of_lost lost =
          let both = and_parts (list_any (owns k) x.owners) (is_left (leaving x) shared x.owners k) lost in
          let more = ltb-true 2 k (and_parts (nat_lt 2 k) _ both.1).0 in omega (arith, more)

  module _ (s : Spaces) (placed : ArePlacedFirst x.m (h x) x.job x.wants s) where
    -- ---- the step

    pub none_grown : s.grown ≡ None
    none_grown = subst (λ (o : Option Growth). IsGrownFirst x.m (h x) o placed.plans s.grown) x.still placed.grown

    pub step : (st : SpaceStep) × (s.take ≡ steps.New st) × IsFirstStep x.m placed.plans gone None st
    step = by s.take (subst (λ (o : Option GrownPlace). IsStepFirst x.m placed.plans gone (root_of o) s.take) none_grown placed.take)
      where
        by : (take : MapStep) → IsStepFirst x.m placed.plans gone None take → (st : SpaceStep) × (take ≡ steps.New st) × IsFirstStep x.m placed.plans gone None st
        by (steps.New st) is = (st, refl, is)
        by (steps.Old space) is = absurd is
        by steps.Nothing is = absurd is

    pub can_edit : CanEdit x.m step.0
    can_edit =
        let st = step.0 in
        let is = step.2 in
        record {
          plans = subst (CanTakeAll x.m.geometry (hole_runs x.m)) (sym is.plans_are) (can x s placed);
          kept = is.kept_rise;
          root = subst (λ (o : Option RootPlace). IfSome o (CanRoot x.m)) (sym is.root_is) tt;
          rising = subst IsStrictlyIncreasing (sym is.zones) (IsStrictlyIncreasing-filter (is_turned x.m placed.plans gone false) (zone_numbers x.m.geometry) (range_rises 0 x.m.geometry.zones));
          low = subst (λ (zs : List ℕ). All (λ z. z < x.m.geometry.zones) zs) (sym is.zones) (λ k e less.
              (let zs = filter (is_turned x.m placed.plans gone false) (zone_numbers x.m.geometry) in
              let low = low_in_range 0 x.m.geometry.zones (get_or zs k e) (from_kept (is_turned x.m placed.plans gone false) (zone_numbers x.m.geometry) (get_or zs k e) (Contains-get_or zs k e less)).0 in omega (arith, low)));
          all = λ z low none.
              subst (λ (ps : List Plan). is_changed x.m ps st.gone.items z ≡ false) (sym is.plans_are)
              (subst (λ (ks : List ℕ). is_changed x.m placed.plans ks z ≡ false) (sym is.gone_are) (unlisted z low (λ at. none (subst (λ (zs : List ℕ). Contains zs z) (sym is.zones) at))));
          first = λ some. absurd (let no : IsSome {T = RootPlace} None = subst (λ (o : Option RootPlace). IsSome o) is.root_is some in cc);
        }
      where
        unlisted : (z : ℕ) → z < x.m.geometry.zones → (Contains (filter (is_turned x.m placed.plans gone false) (zone_numbers x.m.geometry)) z → ⊥) → is_changed x.m placed.plans gone z ≡ false
        unlisted z low none = by (is_changed x.m placed.plans gone z) refl
          where
            by : (b : Bool) → is_changed x.m placed.plans gone z ≡ b → b ≡ false
            by false e = refl
            by true e = absurd (none (in_filter (is_turned x.m placed.plans gone false) (zone_numbers x.m.geometry) z
                (z, (let size = length-range_with_len 0 x.m.geometry.zones in omega (arith, size, low)), get_or-range_with_len 0 x.m.geometry.zones z z low ∙ omega arith)
                (ap₂ (λ (a b : Bool). a && (b || false)) (lt-ltb z x.m.geometry.zones low) e)))

    pub narrow : nat_lt 9 (length step.0.zones.items) ≡ false
    narrow = le-ltb 9 (length step.0.zones.items) (let few = step.2.few in omega (arith, few))

    -- ---- the parts that stay

    all_kept : (p : Plan) (q : ZoneRun) → Contains placed.plans p → Contains (fronts p.parts.items) q → is_one_of gone p.id ≡ true → is_none (find (stands_at q) (fronts step.0.kept.items)) ≡ false
    all_kept p q at there goes_back =
        let part = from_map front_at p.parts.items q there in
        let among : Contains (parts_kept placed.plans gone) part.0 =
        in_flat (λ (r : Plan). cond (is_one_of gone r.id) r.parts.items []) placed.plans p part.0 at (subst (λ (b : Bool). Contains (cond b p.parts.items []) part.0) (sym goes_back) part.1) in
        let kept : Contains (fronts step.0.kept.items) q = subst (Contains (fronts step.0.kept.items)) part.2 (in_map front_at step.0.kept.items part.0 (Contains-permutation (parts_kept placed.plans gone) step.0.kept.items part.0 step.2.kept_are among)) in
        by (find (stands_at q) (fronts step.0.kept.items)) refl kept
      where
        by : (o : Option ZoneRun) → find (stands_at q) (fronts step.0.kept.items) ≡ o → Contains (fronts step.0.kept.items) q → is_none o ≡ false
        by (Some r) e kept = refl
        by None e kept = absurd (none_or_some (stands_at q) (fronts step.0.kept.items) q kept (stands_at-self q) e)

    kept_only : (q : ZoneRun) → Contains (fronts step.0.kept.items) q → (p : Plan) × Contains placed.plans p × Contains (fronts p.parts.items) q
    kept_only q at =
        let part = from_map front_at step.0.kept.items q at in
        let among : Contains (parts_kept placed.plans gone) part.0 = Contains-permutation step.0.kept.items (parts_kept placed.plans gone) part.0 (IsPermutation-sym (parts_kept placed.plans gone) step.0.kept.items step.2.kept_are) part.1 in
        let r = from_flat (λ (p : Plan). cond (is_one_of gone p.id) p.parts.items []) placed.plans part.0 among in
        (r.0, r.1, subst (Contains (fronts r.0.parts.items)) part.2 (in_map front_at r.0.parts.items part.0 (of_it r.0 part.0 (is_one_of gone r.0.id) r.2)))
      where
        of_it : (p : Plan) (part : Part) (b : Bool) → Contains (cond b p.parts.items []) part → Contains p.parts.items part
        of_it p part true there = there
        of_it p part false none = absurd (no_element part none)

    -- No two plans are of one identifier: that of the object has no runs, and the others have some.
    once : AreDistinct (map (λ (p : Plan). p.id) placed.plans)
    once = subst AreDistinct (sym (plan_ids x s placed).all) (by (plan_ids x s placed).own (plan_ids x s placed).is)
      where
        moved : AreDistinct (ids x)
        moved = range_once (λ (k : ℕ). moves x k) (id_limit x.m.geometry) 0

        by : (own : List ℕ) → ((own_bytes x ≡ 0) × (own ≡ [])) ⊎ ((0 < own_bytes x) × (k : ℕ) × (rest : List ℕ) × (own ≡ k ∷ []) × (new_ids x.m ≡ k ∷ rest)) → AreDistinct (own ++ ids x)
        by own (inl none) = subst (λ (ks : List ℕ). AreDistinct (ks ++ ids x)) (sym none.1) moved
        by own (inr one) = subst (λ (ks : List ℕ). AreDistinct (ks ++ ids x)) (sym one.3) (λ at. fresh one.1 one.2 one.4 (used x one.1 (of_ids x one.1 at)), moved)
          where
            fresh : (k : ℕ) (rest : List ℕ) → new_ids x.m ≡ k ∷ rest → is_used x.m k ≡ true → ⊥
            fresh k rest new has = let no = unused x k (subst (λ (ks : List ℕ). Contains ks k) (sym new) (contains_here k rest)) in cc

    pub takes_and_gives : TakesAndGives x.m placed.plans gone step.0.kept.items
    takes_and_gives = record {
      can = can x s placed;
      once = once;
      ids = λ p at. elim (plan_cases x s placed p at) [
        | inl fresh ↦ inl (unused x p.id fresh.0)
        | inr moved ↦ inr (goes_moves p.id moved.0)
      ];
      all_kept = all_kept;
      kept_only = kept_only;
    }

    -- ---- after the step

    module _ (m' : Map) (done : HasEdited x.m m' step.0) where
      moved_on : HasMoved x.m m' placed.plans gone step.0.kept.items
      moved_on = subst (λ (ks : List ℕ). HasMoved x.m m' placed.plans ks step.0.kept.items) step.2.gone_are (subst (λ (ps : List Plan). HasMoved x.m m' ps step.0.gone.items step.0.kept.items) step.2.plans_are done.moved)

      pub edited : IsMapEdited x.m m'
      edited = subst (λ (o : Option RootPlace). IsMapEdited (rooted_map o x.m) m') step.2.root_is done.edited

      pub space : SafeSpaceLaw → IsSpaceChange x.m m' (takings_of placed.plans) gone
      space law = law x.m m' placed.plans gone step.0.kept.items x.agreed.is_map takes_and_gives moved_on

      -- Each plan's identifier has the plan's parts, and no other runs.
      pub taken : SafeSpaceLaw → (q : Plan) → Contains placed.plans q → IsTakenIn m' q
      taken law q at = all_taken x.m m' placed.plans gone step.0.kept.items x.agreed.is_map takes_and_gives moved_on edited.geometry law q at
