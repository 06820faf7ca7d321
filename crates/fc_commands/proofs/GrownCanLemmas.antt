-- The steps of a change of space in which a directory grows can be made of a new map.
use Rattle.std.proofs.Common.{◌≡◌, ◌<◌, ◌≤◌, ⊎_elim, ◌==◌, ℕ, zero, suc, ◌+◌, Bool, true, false, cond, List, [], ◌∷◌, filter, length, get_or, refl, sym, ap, subst, ◌∙◌, arith, eq-eqb, Option, Some, None, All}
use Rattle.std.specs.Prelude.{AllPairs, Contains, IfSome, IsSome}
use Rattle.std.specs.List.Sorted.{IsStrictlyIncreasing}
use Rattle.std.proofs.lemmas.Bool.{eqb-true}
use Rattle.std.proofs.lemmas.List.Elements.{All-cons, Contains-get_or}
use Rattle.std.proofs.lemmas.List.Kept.{IsStrictlyIncreasing-filter}
use Rattle.fc_newmap.specs.Map.{Map, ZoneRun, hole_runs, zone_numbers}
use Rattle.fc_newmap.specs.NewMap.{IsNewMap}
use Rattle.fc_newmap.proofs.HeldLemmas.{geometry_facts}
use Rattle.fc_image.specs.effects.Placed.{BeginsBefore, holes_left}
use Rattle.fc_image.proofs.EntriesLemmas.{from_filter, cases as contains_cases}
use Rattle.fc_changes.proofs.BasicLemmas.{clash, first_in, next_in}
use Rattle.fc_plan.specs.declared.plan.Part.{Part}
use Rattle.fc_plan.specs.declared.plan.Plan.{Plan}
use Rattle.fc_plan.specs.Applied.{CanTakePlan, parts_in}
use Rattle.fc_plan.specs.Giving.{is_one_of}
use Rattle.fc_plan.specs.Parts.{fronts}
use Rattle.fc_plan.proofs.Changes.{not_listed}
use Rattle.fc_plan.proofs.Left.{left_of_none}
use Rattle.fc_changes.specs.Space.{zones_changed}
use Rattle.fc_changes.proofs.StepsLemmas.{low_in_range, range_rises}
use Rattle.fc_tree.proofs.MemberLemmas.{no_element}
use Rattle.fc_writing.specs.declared.ready.MapStep.{MapStep}
use Rattle.fc_writing.specs.declared.ready.MapStep.TheVariants as steps
use Rattle.fc_writing.specs.declared.ready.RootPlace.{RootPlace}
use Rattle.fc_writing.specs.declared.ready.SpaceStep.{SpaceStep}
use Rattle.fc_writing.specs.Steps.{CanEdit, CanRoot, CanStep, CanTakeAll, HasStepped, is_changed}
use Rattle.fc_writing.proofs.LaterLemmas.{later_law}
use Rattle.fc_change.specs.GrownSpace.{gone_at_once, kept_parts, plans_of}
use Rattle.fc_change.specs.Steps.{IsSpaceStep, IsStep, with_zone_0, zones_of}
use Rattle.fc_commands.proofs.GrownStepLemmas.{PlansFit, with_some}
use Rattle.fc_commands.proofs.SpaceLemmas.{can_edit, no_parts_kept, zones_same}

-- ---- the zones that are listed

module _ (m : Map) (plans : List Plan) (gone : List ℕ) where
  abbrev changed : ℕ → Bool
  changed z = is_changed m plans gone z

  abbrev listed : List ℕ
  listed = filter (is_changed m plans gone) (zone_numbers m.geometry)

  listed_rise : IsStrictlyIncreasing listed
  listed_rise = IsStrictlyIncreasing-filter (is_changed m plans gone) (zone_numbers m.geometry) (range_rises 0 m.geometry.zones)

  listed_low : All (λ z. z < m.geometry.zones) listed
  listed_low k d inside =
      let at = low_in_range 0 m.geometry.zones (get_or listed k d) (from_filter (is_changed m plans gone) (zone_numbers m.geometry) (get_or listed k d) (Contains-get_or listed k d inside)) in
      omega (arith, at)

  unlisted : (z : ℕ) → z < m.geometry.zones → (Contains listed z → ⊥) → is_changed m plans gone z ≡ false
  unlisted z low none = not_listed (is_changed m plans gone) m.geometry.zones z [] listed refl low none

  -- The zones rise, are the map's, and all others stay; zone 0 is among them if the root has another place.
  pub record AreZones (root : Option RootPlace) (zones : List ℕ) : Type 0 where
    pub rising : IsStrictlyIncreasing zones
    pub low : All (λ z. z < m.geometry.zones) zones
    pub all : (z : ℕ) → z < m.geometry.zones → (Contains zones z → ⊥) → is_changed m plans gone z ≡ false
    pub first : IsSome root → Contains zones 0

  with_first : (p : RootPlace) → 1 ≤ m.geometry.zones → (zs : List ℕ) → IsStrictlyIncreasing zs → All (λ z. z < m.geometry.zones) zs
      → ((z : ℕ) → z < m.geometry.zones → (Contains zs z → ⊥) → is_changed m plans gone z ≡ false) → AreZones (Some p) (with_zone_0 zs)
  with_first p some [] rises lows rest = record {
    rising = λ k lt. absurd (omega (arith, lt));
    low = All-cons (λ z. z < m.geometry.zones) 0 [] some lows;
    all = λ z in' none. rest z in' (λ at. no_element z at);
    first = λ e. first_in 0 [];
  }
  with_first p some (z ∷ zs) rises lows rest = go (z == 0) refl
    where
      go : (b : Bool) → (z == 0) ≡ b → AreZones (Some p) (cond b (z ∷ zs) (0 ∷ z ∷ zs))
      go true e = record { rising = rises; low = lows; all = rest; first = λ f. subst (λ (y : ℕ). Contains (z ∷ zs) y) (eqb-true z 0 e) (first_in z zs) }
      go false e = record {
        rising = step;
        low = All-cons (λ y. y < m.geometry.zones) 0 (z ∷ zs) some lows;
        all = λ y in' none. rest y in' (λ at. none (next_in 0 y (z ∷ zs) at));
        first = λ f. first_in 0 (z ∷ zs);
      }
        where
          positive : (n : ℕ) → (n ≡ 0 → ⊥) → 0 < n
          positive zero ne = absurd (ne refl)
          positive (suc n) ne = omega arith

          step : (k : ℕ) → k + 1 < length (0 ∷ z ∷ zs) → get_or (0 ∷ z ∷ zs) k 0 < get_or (0 ∷ z ∷ zs) (k + 1) 0
          step zero lt = positive z (λ same. clash (z == 0) (eq-eqb z 0 same) e)
          step (suc k) lt = subst (λ (n : ℕ). get_or (z ∷ zs) k 0 < get_or (0 ∷ z ∷ zs) n 0) (let n : suc (k + 1) ≡ suc k + 1 = omega arith in n) (rises k (omega (arith, lt)))

  pub are_zones : 1 ≤ m.geometry.zones → (root : Option RootPlace) → AreZones root (zones_of m plans gone root)
  are_zones some None = record { rising = listed_rise; low = listed_low; all = unlisted; first = λ e. absurd (let no : IsSome {T = RootPlace} None = e in cc) }
  are_zones some (Some p) = with_first p some listed listed_rise listed_low unlisted

-- ---- both steps

-- Each of these that is there has the property of those plans.
stay_of : (P : Plan → Type 0) (object dir : Option Plan) → IfSome object P → IfSome dir P → (p : Plan) → Contains (plans_of object dir) p → P p
stay_of P None None a b p at = absurd (no_element p at)
stay_of P (Some x) None a b p at = ⊎_elim (λ same. subst P same a) (λ none. absurd (no_element p none)) (contains_cases x p [] at)
stay_of P None (Some y) a b p at = ⊎_elim (λ same. subst P same b) (λ none. absurd (no_element p none)) (contains_cases y p [] at)
stay_of P (Some x) (Some y) a b p at =
    ⊎_elim (λ same. subst P same a) (λ later. ⊎_elim (λ same. subst P same b) (λ none. absurd (no_element p none)) (contains_cases y p [] later)) (contains_cases x p (y ∷ []) at)

module _ (m : Map) (object dir : Option Plan) (alone : Bool) (back : List ℕ) (fit : PlansFit m object dir alone back) where
  plans_can : CanTakeAll m.geometry (hole_runs m) (plans_of object dir)
  plans_can = by object dir fit.object_can fit.dir_can
    where
      by : (o d : Option Plan) → IfSome o (CanTakePlan m.geometry (hole_runs m)) → IfSome d (CanTakePlan m.geometry (holes_left (hole_runs m) (parts_in o))) → CanTakeAll m.geometry (hole_runs m) (plans_of o d)
      by None None a b = tt
      by (Some p) None a b = (a, tt)
      by None (Some q) a b = (subst (λ (hs : List ZoneRun). CanTakePlan m.geometry hs q) (left_of_none (hole_runs m)) b, tt)
      by (Some p) (Some q) a b = (a, (b, tt))

  kept_rise : AllPairs BeginsBefore (fronts (kept_parts dir alone))
  kept_rise = by dir fit.dir_can alone
    where
      by : (d : Option Plan) → IfSome d (CanTakePlan m.geometry (holes_left (hole_runs m) (parts_in object))) → (a : Bool) → AllPairs BeginsBefore (fronts (kept_parts d a))
      by None can a = no_parts_kept
      by (Some q) can true = can.rising
      by (Some q) can false = no_parts_kept

  abbrev plans : List Plan
  plans = plans_of object dir

  abbrev once : List ℕ
  once = gone_at_once dir alone

  module _ (root : Option RootPlace) (is : IsNewMap m) where
    space_can : (s : SpaceStep) → IsSpaceStep m (plans_of object dir) (gone_at_once dir alone) (kept_parts dir alone) root s → IfSome root (CanRoot m) → CanEdit m s
    space_can s at can =
        let zones : AreZones m plans once root s.zones.items =
        subst (AreZones m plans once root) (sym at.zones) (are_zones m plans once (let some = (geometry_facts m.geometry is.of_record).zones in omega (arith, some)) root) in
        record {
          plans = subst (λ (ps : List Plan). CanTakeAll m.geometry (hole_runs m) ps) (sym at.plans_are) plans_can;
          kept = subst (λ (ks : List Part). AllPairs BeginsBefore (fronts ks)) (sym at.kept_are) kept_rise;
          root = subst (λ (o : Option RootPlace). IfSome o (CanRoot m)) (sym at.root_is) can;
          rising = zones.rising;
          low = zones.low;
          all = λ z low none.
              subst (λ (ps : List Plan). is_changed m ps s.gone.items z ≡ false) (sym at.plans_are)
              (subst (λ (gs : List ℕ). is_changed m plans gs z ≡ false) (sym at.gone_are) (zones.all z low none));
          first = λ some. zones.first (subst (λ (o : Option RootPlace). IsSome o) at.root_is some);
        }

    -- The first step can be made, if the record of the disc can have the root's new place.
    pub can_take : (take : MapStep) → IsStep m (plans_of object dir) (gone_at_once dir alone) (kept_parts dir alone) root take → IfSome root (CanRoot m) → CanStep m take
    can_take (steps.New s) at can = space_can s at can
    can_take (steps.Old space) at can = absurd at
    can_take steps.Nothing at can = tt

    -- So can the second, of the map between.
    pub can_give : (mid : Map) (take give : MapStep) → IsStep m (plans_of object dir) (gone_at_once dir alone) (kept_parts dir alone) root take → IsStep m [] back [] None give → HasStepped m mid take → CanStep mid give
    can_give mid (steps.New first) (steps.New later) takes gives done =
        later_law m mid first later is done
        (record {
          nothing = gives.plans_are;
          none_kept = gives.kept_are;
          no_root = gives.root_is;
          zones = gives.zones ∙ zones_same m None back ∙ ap (λ (gs : List ℕ). zones_changed m None gs) (sym gives.gone_are);
          others = λ p at.
              subst (λ (gs : List ℕ). is_one_of gs p.id ≡ false) (sym gives.gone_are)
              (stay_of (λ (x : Plan). is_one_of back x.id ≡ false) object dir (with_some object (λ x h. h.1) fit.object_stays) fit.dir_stays p (subst (λ (ps : List Plan). Contains ps p) takes.plans_are at));
        })
    can_give mid steps.Nothing (steps.New later) takes gives done = subst (λ (x : Map). CanEdit x later) (sym done) (can_edit m None back later gives tt)
    can_give mid (steps.Old space) (steps.New later) takes gives done = absurd takes
    can_give mid take (steps.Old space) takes gives done = absurd gives
    can_give mid take steps.Nothing takes gives done = tt
