-- The one step of the map of a job by which a directory grows: what it takes, what goes back, and what each plan's identifier has then.
use Rattle.std.proofs.Common.{◌≡◌, ◌<◌, ◌≤◌, ◌&&◌, ◌||◌, ◌==◌, ◌⊎◌, inl, inr, ⊎_elim, ℕ, Bool, true, false, cond, get_or, List, [], filter, length, refl, sym, ap₂, subst, ◌∙◌, arith, Option, Some, None}
use Rattle.std.specs.Prelude.{All, Contains, IfSome, IsSome, is_none, is_some, nat_lt}
use Rattle.std.specs.List.{find, list_any}
use Rattle.std.specs.List.Sorted.{IsStrictlyIncreasing}
use Rattle.std.proofs.lemmas.Bool.{and_parts, le-ltb, lt-ltb, ltb-true, or_cases}
use Rattle.std.proofs.lemmas.List.FromFn.{get_or-range_with_len, length-range_with_len}
use Rattle.std.proofs.lemmas.List.Kept.{IsStrictlyIncreasing-filter}
use Rattle.std.proofs.lemmas.List.Elements.{Contains-get_or}
use Rattle.std.proofs.lemmas.List.Sorted.{Contains-permutation, IsPermutation-sym}
use Rattle.fc_alloc.specs.Owners.{owns}
use Rattle.fc_record.specs.Record.{id_limit}
use Rattle.fc_newmap.specs.Map.{Map, ZoneRun, hole_runs, zone_numbers}
use Rattle.fc_image.specs.effects.Placed.{stands_at}
use Rattle.fc_plan.specs.declared.plan.Part.{Part}
use Rattle.fc_plan.specs.declared.plan.Plan.{Plan}
use Rattle.fc_plan.specs.Applied.{IsTakenIn}
use Rattle.fc_plan.specs.Giving.{is_one_of}
use Rattle.fc_plan.specs.Parts.{front_at, fronts}
use Rattle.fc_plan.proofs.Taken.{stands_at-self}
use Rattle.fc_tree.proofs.MemberLemmas.{from_map, in_filter, in_map, no_element}
use Rattle.fc_changes.specs.Space.{IsMapEdited}
use Rattle.fc_changes.proofs.StepsLemmas.{low_in_range, range_rises}
use Rattle.fc_placing.proofs.LeavingLemmas.{from_kept, none_or_some}
use Rattle.fc_writing.specs.declared.ready.MapStep.{MapStep}
use Rattle.fc_writing.specs.declared.ready.MapStep.TheVariants as steps
use Rattle.fc_writing.specs.declared.ready.RootPlace.{RootPlace}
use Rattle.fc_writing.specs.declared.ready.SpaceStep.{SpaceStep}
use Rattle.fc_writing.specs.Steps.{CanEdit, CanRoot, CanTakeAll, HasEdited, HasMoved, is_changed, rooted_map}
use Rattle.fc_edits.specs.NewPlaces.{IsSpaceChange}
use Rattle.fc_change.specs.declared.job.Growth.{Growth}
use Rattle.fc_change.specs.declared.spaces.GrownPlace.{GrownPlace}
use Rattle.fc_change.specs.declared.spaces.Spaces.{Spaces}
use Rattle.fc_change.specs.GrownSpace.{root_of}
use Rattle.fc_safe.specs.FirstNeeds.{first_gone, goes, shared_by}
use Rattle.fc_safe.specs.FirstSpace.{ArePlacedFirst, IsFirstGrown, IsFirstStep, IsGrownFirst, IsStepFirst, parts_kept}
use Rattle.fc_safe.specs.Gone.{is_left, is_lost_by}
use Rattle.fc_safe.specs.Zones.{is_turned}
use Rattle.fc_safe.proofs.ListLemmas.{from_flat, in_flat}
use Rattle.fc_safe.proofs.ZoneLemmas.{in_range}
use Rattle.fc_safeedits.specs.SafeSpace.{SafeSpaceLaw, TakesAndGives, takings_of}
use Rattle.fc_safecommands.proofs.TakenLemmas.{all_taken}
use Rattle.fc_laws.proofs.lemmas.agree.BeforeLemmas.{new_facts}
use Rattle.fc_safecommands.proofs.GrownStirLemmas.{GrowingJob, h, leaving, moves, moves_high, stir}
use Rattle.fc_safecommands.proofs.GrownSpaceLemmas.{can, once, plan_cases, unused}
use Rattle.fc_placing.proofs.LowLemmas.{or_true}

module _ (x : GrowingJob) where
  -- ---- what goes back

  abbrev pub gone : List ℕ
  gone = first_gone x.m (h x) x.job x.wants

  abbrev pub shared : Option ℕ
  shared = shared_by x.m x.owners x.wants

  pub gone_is : (k : ℕ) → is_one_of (first_gone x.m (h x) x.job x.wants) k ≡ (nat_lt k (id_limit x.m.geometry) && (moves x k || is_lost_by (leaving x) shared x.owners k))
  gone_is k = in_range (goes (h x) (stir x) shared) (id_limit x.m.geometry) k

  pub goes_moves : (k : ℕ) → moves x k ≡ true → is_one_of (first_gone x.m (h x) x.job x.wants) k ≡ true
  goes_moves k e = gone_is k ∙ ap₂ (λ (a b : Bool). a && (b || is_lost_by (leaving x) shared x.owners k)) (lt-ltb k (id_limit x.m.geometry) (moves_high x k e).1) e

  pub gone_low : (k : ℕ) → is_one_of (first_gone x.m (h x) x.job x.wants) k ≡ true → 3 ≤ k
  gone_low k e =
      ⊎_elim (λ moved. (moves_high x k moved).0) (λ lost. of_lost lost)
      (or_cases (moves x k) (is_lost_by (leaving x) shared x.owners k) (and_parts (nat_lt k (id_limit x.m.geometry)) (moves x k || is_lost_by (leaving x) shared x.owners k) (sym (gone_is k) ∙ e)).1)
    where
      of_lost : is_lost_by (leaving x) shared x.owners k ≡ true → 3 ≤ k
      of_lost lost =
          let both = and_parts (list_any (owns k) x.owners) (is_left (leaving x) shared x.owners k) lost in
          let more = ltb-true 2 k (and_parts (nat_lt 2 k) _ both.1).0 in omega (arith, more)

  module _ (s : Spaces) (placed : ArePlacedFirst x.m (h x) x.job x.wants s) where
    -- ---- where the grown directory comes to lie

    pub grown_at : (p : GrownPlace) × (s.grown ≡ Some p) × IsFirstGrown x.m (h x) x.growth placed.plans p
    grown_at = by s.grown (subst (λ (o : Option Growth). IsGrownFirst x.m (h x) o placed.plans s.grown) x.grows placed.grown)
      where
        by : (o : Option GrownPlace) → IsGrownFirst x.m (h x) (Some x.growth) placed.plans o → (p : GrownPlace) × (o ≡ Some p) × IsFirstGrown x.m (h x) x.growth placed.plans p
        by None at = absurd at
        by (Some p) at = (p, refl, at)

    -- ---- the step

    abbrev pub root : Option RootPlace
    root = root_of s.grown

    pub step : (st : SpaceStep) × (s.take ≡ steps.New st) × IsFirstStep x.m placed.plans gone (root_of s.grown) st
    step = by s.take placed.take
      where
        by : (take : MapStep) → IsStepFirst x.m placed.plans gone root take → (st : SpaceStep) × (take ≡ steps.New st) × IsFirstStep x.m placed.plans gone root st
        by (steps.New st) is = (st, refl, is)
        by (steps.Old space) is = absurd is
        by steps.Nothing is = absurd is

    -- if the record can have the root's new place
    module _ (rooted : IfSome (root_of s.grown) (CanRoot x.m)) where
      pub can_edit : CanEdit x.m step.0
      can_edit =
          let st = step.0 in
          let is = step.2 in
          record {
            plans = subst (CanTakeAll x.m.geometry (hole_runs x.m)) (sym is.plans_are) (can x s placed);
            kept = is.kept_rise;
            root = subst (λ (o : Option RootPlace). IfSome o (CanRoot x.m)) (sym is.root_is) rooted;
            rising = subst IsStrictlyIncreasing (sym is.zones) (IsStrictlyIncreasing-filter turned (zone_numbers x.m.geometry) (range_rises 0 x.m.geometry.zones));
            low = subst (λ (zs : List ℕ). All (λ z. z < x.m.geometry.zones) zs) (sym is.zones) (λ k e less.
                (let zs = filter turned (zone_numbers x.m.geometry) in
                let low = low_in_range 0 x.m.geometry.zones (get_or zs k e) (from_kept turned (zone_numbers x.m.geometry) (get_or zs k e) (Contains-get_or zs k e less)).0 in omega (arith, low)));
            all = λ z low none.
                subst (λ (ps : List Plan). is_changed x.m ps st.gone.items z ≡ false) (sym is.plans_are)
                (subst (λ (ks : List ℕ). is_changed x.m placed.plans ks z ≡ false) (sym is.gone_are) (unlisted z low (λ at. none (subst (λ (zs : List ℕ). Contains zs z) (sym is.zones) at))));
            first = λ some. subst (λ (zs : List ℕ). Contains zs 0) (sym is.zones) (zone_0 (subst (λ (o : Option RootPlace). IsSome o) is.root_is some));
          }
        where
          turned : ℕ → Bool
          turned = is_turned x.m placed.plans gone (is_some root)

          among : (z : ℕ) → z < x.m.geometry.zones → turned z ≡ true → Contains (filter turned (zone_numbers x.m.geometry)) z
          among z low e =
              in_filter turned (zone_numbers x.m.geometry) z
              (z, (let size = length-range_with_len 0 x.m.geometry.zones in omega (arith, size, low)), get_or-range_with_len 0 x.m.geometry.zones z z low ∙ omega arith) e

          unlisted : (z : ℕ) → z < x.m.geometry.zones → (Contains (filter turned (zone_numbers x.m.geometry)) z → ⊥) → is_changed x.m placed.plans gone z ≡ false
          unlisted z low none = by (is_changed x.m placed.plans gone z) refl
            where
              by : (b : Bool) → is_changed x.m placed.plans gone z ≡ b → b ≡ false
              by false e = refl
              by true e = absurd (none (among z low (ap₂ (λ (a b : Bool). a && (b || (is_some root && (z == 0)))) (lt-ltb z x.m.geometry.zones low) e)))

          zone_0 : IsSome root → Contains (filter turned (zone_numbers x.m.geometry)) 0
          zone_0 some =
              let first = (new_facts x.m x.agreed.is_map).zones in
              let low : 0 < x.m.geometry.zones = omega (arith, first) in
              among 0 low (ap₂ (λ (a b : Bool). a && (is_changed x.m placed.plans gone 0 || (b && (0 == 0)))) (lt-ltb 0 x.m.geometry.zones low) some ∙ or_true (is_changed x.m placed.plans gone 0))

    pub narrow : nat_lt 9 (length step.0.zones.items) ≡ false
    narrow = le-ltb 9 (length step.0.zones.items) (let few = step.2.few in omega (arith, few))

    -- ---- the parts that stay

    all_kept : (p : Plan) (q : ZoneRun) → Contains placed.plans p → Contains (fronts p.parts.items) q → is_one_of gone p.id ≡ true → is_none (find (stands_at q) (fronts step.0.kept.items)) ≡ false
    all_kept p q at there goes_back =
        let part = from_map front_at p.parts.items q there in
        let among : Contains (parts_kept placed.plans gone) part.0 =
        in_flat (λ (r : Plan). cond (is_one_of gone r.id) r.parts.items []) placed.plans p part.0 at (subst (λ (b : Bool). Contains (cond b p.parts.items []) part.0) (sym goes_back) part.1) in
        let kept : Contains (fronts step.0.kept.items) q = subst (Contains (fronts step.0.kept.items)) part.2 (in_map front_at step.0.kept.items part.0 (Contains-permutation (parts_kept placed.plans gone) step.0.kept.items part.0 step.2.kept_are among)) in
        by (find (stands_at q) (fronts step.0.kept.items)) refl kept
      where
        by : (o : Option ZoneRun) → find (stands_at q) (fronts step.0.kept.items) ≡ o → Contains (fronts step.0.kept.items) q → is_none o ≡ false
        by (Some r) e kept = refl
        by None e kept = absurd (none_or_some (stands_at q) (fronts step.0.kept.items) q kept (stands_at-self q) e)

    kept_only : (q : ZoneRun) → Contains (fronts step.0.kept.items) q → (p : Plan) × Contains placed.plans p × Contains (fronts p.parts.items) q
    kept_only q at =
        let part = from_map front_at step.0.kept.items q at in
        let among : Contains (parts_kept placed.plans gone) part.0 = Contains-permutation step.0.kept.items (parts_kept placed.plans gone) part.0 (IsPermutation-sym (parts_kept placed.plans gone) step.0.kept.items step.2.kept_are) part.1 in
        let r = from_flat (λ (p : Plan). cond (is_one_of gone p.id) p.parts.items []) placed.plans part.0 among in
        (r.0, r.1, subst (Contains (fronts r.0.parts.items)) part.2 (in_map front_at r.0.parts.items part.0 (of_it r.0 part.0 (is_one_of gone r.0.id) r.2)))
      where
        of_it : (p : Plan) (part : Part) (b : Bool) → Contains (cond b p.parts.items []) part → Contains p.parts.items part
        of_it p part true there = there
        of_it p part false none = absurd (no_element part none)

    pub takes_and_gives : TakesAndGives x.m placed.plans gone step.0.kept.items
    takes_and_gives = record {
      can = can x s placed;
      once = once x s placed;
      ids = λ p at. elim (plan_cases x s placed p at) [
        | inl fresh ↦ inl (unused x p.id fresh.0)
        | inr other ↦ elim other [
          | inl moved ↦ inr (goes_moves p.id moved.0)
          | inr last ↦ inl (unused x p.id last.0)
        ]
      ];
      all_kept = all_kept;
      kept_only = kept_only;
    }

    -- ---- after the step

    module _ (m' : Map) (done : HasEdited x.m m' step.0) where
      moved_on : HasMoved x.m m' placed.plans gone step.0.kept.items
      moved_on = subst (λ (ks : List ℕ). HasMoved x.m m' placed.plans ks step.0.kept.items) step.2.gone_are (subst (λ (ps : List Plan). HasMoved x.m m' ps step.0.gone.items step.0.kept.items) step.2.plans_are done.moved)

      pub edited : IsMapEdited (rooted_map (root_of s.grown) x.m) m'
      edited = subst (λ (o : Option RootPlace). IsMapEdited (rooted_map o x.m) m') step.2.root_is done.edited

      pub geometry : m'.geometry ≡ x.m.geometry
      geometry = edited.geometry ∙ by root
        where
          by : (o : Option RootPlace) → (rooted_map o x.m).geometry ≡ x.m.geometry
          by None = refl
          by (Some p) = refl

      pub space : SafeSpaceLaw → IsSpaceChange x.m m' (takings_of placed.plans) gone
      space law = law x.m m' placed.plans gone step.0.kept.items x.agreed.is_map takes_and_gives moved_on

      -- Each plan's identifier has the plan's parts, and no other runs.
      pub taken : SafeSpaceLaw → (q : Plan) → Contains placed.plans q → IsTakenIn m' q
      taken law q at = all_taken x.m m' placed.plans gone step.0.kept.items x.agreed.is_map takes_and_gives moved_on geometry law q at
