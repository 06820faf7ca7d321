-- What one step of a new map does to its runs.
use Rattle.std.proofs.Common.{◌≡◌, ◌<◌, ◌⊎◌, inl, inr, ⊎_elim, ℕ, Bool, true, false, not, cond, ◌&&◌, ◌||◌, List, [], ◌∷◌, ◌++◌, map, refl, sym, ap, ap₂, subst, ◌∙◌, arith, Option, Some, None, eq-eqb}
use Rattle.std.specs.Prelude.{All, Contains, IsPermutation, filter, find, is_none, ◌==◌}
use Rattle.std.proofs.lemmas.Bool.{eqb-true}
use Rattle.std.proofs.lemmas.List.Elements.{Contains-get_or}
use Rattle.std.proofs.lemmas.List.Sorted.{IsPermutation-sym}
use Rattle.fc_record.specs.declared.Geometry.{Geometry}
use Rattle.fc_zone.specs.declared.Run.{Run}
use Rattle.fc_zone.specs.declared.RunKind.{RunKind}
use Rattle.fc_zone.specs.declared.RunKind.TheVariants.{Hole, Id}
use Rattle.fc_newmap.specs.Map.{Map, ZoneRun, all_runs, has_id, hole_runs, id_runs, is_hole, is_used, runs_in, runs_of, zone_numbers}
use Rattle.fc_newmap.specs.NewMap.{IsNewMap}
use Rattle.fc_newmap.specs.Edits.{KeepsRuns}
use Rattle.fc_newmap.specs.RunsLaw.{placed}
use Rattle.fc_newmap.proofs.HeldLemmas.{geometry_facts}
use Rattle.fc_newmap.proofs.PlaceLemmas.{id_run_in, in_zone, range_in, zone_in}
use Rattle.fc_image.specs.effects.Placed.{holes_left, stands_at}
use Rattle.fc_image.specs.effects.Steady.{has_id_that, holes_with, runs_that, zone_holes}
use Rattle.fc_plan.specs.declared.plan.Part.{Part}
use Rattle.fc_plan.specs.declared.plan.Plan.{Plan}
use Rattle.fc_plan.specs.Applied.{unless_gone}
use Rattle.fc_plan.specs.Giving.{is_given, is_one_of, stays_given}
use Rattle.fc_plan.specs.Parts.{fronts}
use Rattle.fc_plan.specs.Taking.{as_runs, hole_taken, run_taken, with_id}
use Rattle.fc_plan.proofs.Composed.{given_after_take, no_kept_at, same_filter}
use Rattle.fc_plan.proofs.Moved.{filter_moved}
use Rattle.fc_plan.proofs.Taken.{find_is}
use Rattle.fc_changes.specs.Space.{HasTaken}
use Rattle.fc_changes.proofs.StepsLemmas.{ids_same}
use Rattle.fc_changes.proofs.SpaceLemmas.{no_runs}
use Rattle.fc_tree.proofs.MemberLemmas.{contains_here, from_map, in_map, no_element}
use Rattle.fc_writing.specs.Steps.{AreTaken, CanTakeAll, HasMoved}
use Rattle.fc_edits.specs.NewNodes.{AreDistinct}
use Rattle.fc_edits.specs.NewPlaces.{IsSpaceChange, Taking, is_taken, untaken}
use Rattle.fc_edits.proofs.lemmas.ListLemmas.{in_flat}
use Rattle.fc_safeedits.specs.SafeSpace.{SafeSpaceLaw, TakesAndGives, taking_of, takings_of}
use Rattle.fc_device.specs.Numbers.{is_listed as is_in}
use Rattle.fc_changes.proofs.CommittedLemmas.{all_same as runs_same}
use Rattle.fc_image.proofs.EntriesLemmas.{later as contains_later, cases as contains_cases}

-- ---- lists

-- what isn't found is not there
pub none_found : {X : Type 0} (t : X → Bool) (xs : List X) (x : X) → find t xs ≡ None → Contains xs x → t x ≡ true → ⊥
none_found t [] x e at h = no_element x at
none_found {X} t (y ∷ xs) x e at h = by (t y) refl e (λ f there. none_found t xs x f there h)
  where
    by : (b : Bool) → t y ≡ b → cond b (Some y) (find t xs) ≡ None → (find t xs ≡ None → Contains xs x → ⊥) → ⊥
    by true g f more = let two : Some y ≡ None = f in cc
    by false g f more = ⊎_elim (λ same. let here : t y ≡ true = ap t same ∙ h in cc) (λ later. more f later) (contains_cases y x xs at)

-- a test that all pass, or none
filter_all : {X : Type 0} (t : X → Bool) (b : Bool) (xs : List X) → ((x : X) → Contains xs x → t x ≡ b) → filter t xs ≡ cond b xs []
filter_all t true [] each = refl
filter_all t false [] each = refl
filter_all {X} t true (x ∷ xs) each =
    ap (λ (b : Bool). cond b (x ∷ filter t xs) (filter t xs)) (each x (contains_here x xs)) ∙ ap (λ (ys : List X). x ∷ ys) (filter_all t true xs (λ y at. each y (contains_later x y xs at)))
filter_all t false (x ∷ xs) each =
    ap (λ (b : Bool). cond b (x ∷ filter t xs) (filter t xs)) (each x (contains_here x xs)) ∙ filter_all t false xs (λ y at. each y (contains_later x y xs at))

filter_two : {X : Type 0} (t : X → Bool) (xs ys : List X) → filter t (xs ++ ys) ≡ filter t xs ++ filter t ys
filter_two t [] ys = refl
filter_two {X} t (x ∷ xs) ys = by (t x) (filter_two t xs ys)
  where
    by : (b : Bool) → filter t (xs ++ ys) ≡ filter t xs ++ filter t ys → cond b (x ∷ filter t (xs ++ ys)) (filter t (xs ++ ys)) ≡ cond b (x ∷ filter t xs) (filter t xs) ++ filter t ys
    by true e = ap (λ (zs : List X). x ∷ zs) e
    by false e = e

-- ---- maps with the same runs

pub all_same : (m m' : Map) → KeepsRuns m m' → all_runs m' ≡ all_runs m
all_same m m' kept = ap (λ (g : Geometry). runs_in m' (zone_numbers g)) kept.geometry ∙ runs_same m m' kept (zone_numbers m.geometry)

pub holes_same : (m m' : Map) → KeepsRuns m m' → hole_runs m' ≡ hole_runs m
holes_same m m' kept = ap (filter (λ (p : ZoneRun). is_hole p.1.kind)) (all_same m m' kept)

-- ---- one plan after another

-- a run of an identifier stays when parts are taken
pub persists : (m m' : Map) (id : ℕ) (parts : List ZoneRun) → HasTaken m m' id parts → (p : ZoneRun) → Contains (all_runs m) p → is_hole p.1.kind ≡ false → Contains (all_runs m') p
persists m m' id parts taken p at other =
    let there = zone_in m (zone_numbers m.geometry) p at in
    let low : p.0 < m.geometry.zones = let r = (range_in 0 m.geometry.zones p.0 there.0).1 in omega arith in
    let run = from_map (λ (r : Run). let q : ZoneRun = (p.0, r) in q) (runs_of m p.0) p there.1 in
    let kind : is_hole run.0.kind ≡ false = ap (λ (q : ZoneRun). is_hole q.1.kind) run.2 ∙ other in
    let itself : Contains (run_taken id parts p.0 run.0) run.0 = subst (λ (rs : List Run). Contains rs run.0) (sym (ap (λ (b : Bool). cond b (hole_taken id (find (stands_at (p.0, run.0)) parts) run.0) (run.0 ∷ [])) kind)) (contains_here run.0 []) in
    let now : Contains (runs_of m' p.0) run.0 = subst (λ (rs : List Run). Contains rs run.0) (sym (taken.runs p.0 low)) (in_flat (run_taken id parts p.0) (runs_of m p.0) run.0 run.0 run.1 itself) in
    in_zone m' (zone_numbers m'.geometry) p (subst (λ (g : Geometry). is_in (zone_numbers g) p.0 ≡ true) (sym taken.geometry) there.0)
    (subst (Contains (placed p.0 (runs_of m' p.0))) run.2 (in_map (λ (r : Run). let q : ZoneRun = (p.0, r) in q) (runs_of m' p.0) run.0 now))

-- the holes in which the other plans can be taken
pub can_after : (m m' : Map) (id : ℕ) (parts : List ZoneRun) (plans : List Plan) → HasTaken m m' id parts → CanTakeAll m.geometry (holes_left (hole_runs m) parts) plans → CanTakeAll m'.geometry (hole_runs m') plans
can_after m m' id parts plans taken can =
    subst (λ (g : Geometry). CanTakeAll g (hole_runs m') plans) (sym taken.geometry) (subst (λ (hs : List ZoneRun). CanTakeAll m.geometry hs plans) (sym taken.holes) can)

-- no part of a plan stands where an identifier had a run
pub away : (m n : Map) (plans : List Plan) → IsNewMap m → AreTaken m plans n → CanTakeAll m.geometry (hole_runs m) plans → (p : ZoneRun) → Contains (all_runs m) p → is_hole p.1.kind ≡ false
    → (q : Plan) → Contains plans q → find (stands_at p) (fronts q.parts.items) ≡ None
away m n [] is taken can p at other q among = absurd (no_element q among)
away m n (a ∷ plans) is taken can p at other q among =
    ⊎_elim (λ same. subst (λ (b : Plan). find (stands_at p) (fronts b.parts.items) ≡ None) same (no_kept_at m (fronts a.parts.items) is can.0.cut p at other))
    (λ later. away taken.0 n plans taken.1 taken.3 (can_after m taken.0 a.id (fronts a.parts.items) plans taken.2 can.1) p (persists m taken.0 a.id (fronts a.parts.items) taken.2 p at other) other q later)
    (contains_cases a q plans among)

-- the holes that are left
holes_after : (m n : Map) (plans : List Plan) → AreTaken m plans n → hole_runs n ≡ untaken (hole_runs m) (takings_of plans)
holes_after m n [] same = ap hole_runs same
holes_after m n (a ∷ plans) taken = holes_after taken.0 n plans taken.3 ∙ ap (λ (hs : List ZoneRun). untaken hs (takings_of plans)) taken.2.holes

-- what no plan takes for stays as it was
pub others_after : (m n : Map) (plans : List Plan) (k : ℕ) → AreTaken m plans n → is_taken (takings_of plans) k ≡ false → id_runs n k ≡ id_runs m k
others_after m n [] k same none = ap (λ (x : Map). id_runs x k) same
others_after m n (a ∷ plans) k taken none = by (a.id == k) refl none (others_after taken.0 n plans k taken.3)
  where
    by : (b : Bool) → (a.id == k) ≡ b → (b || is_taken (takings_of plans) k) ≡ false → (is_taken (takings_of plans) k ≡ false → id_runs n k ≡ id_runs taken.0 k) → id_runs n k ≡ id_runs m k
    by true e f more = absurd (cc)
    by false e f more = more f ∙ taken.2.others k (λ same. let two : (a.id == k) ≡ true = eq-eqb a.id k (sym same) in cc)

pub not_again : (plans : List Plan) (k : ℕ) → (Contains (map (λ (p : Plan). p.id) plans) k → ⊥) → is_taken (takings_of plans) k ≡ false
not_again [] k none = refl
not_again (a ∷ plans) k none = by (a.id == k) refl (not_again plans k (λ at. none (contains_later a.id k (map (λ (p : Plan). p.id) plans) at)))
  where
    by : (b : Bool) → (a.id == k) ≡ b → is_taken (takings_of plans) k ≡ false → (b || is_taken (takings_of plans) k) ≡ false
    by true e rest = absurd (none (subst (Contains (a.id ∷ map (λ (p : Plan). p.id) plans)) (eqb-true a.id k e) (contains_here a.id (map (λ (p : Plan). p.id) plans))))
    by false e rest = rest

-- what one takes for gets its parts
own_after : (m n : Map) (plans : List Plan) → AreTaken m plans n → AreDistinct (map (λ (p : Plan). p.id) plans) → (q : Plan) → Contains plans q
    → IsPermutation (id_runs n q.id) (id_runs m q.id ++ as_runs q.id (fronts q.parts.items))
own_after m n [] taken once q among = absurd (no_element q among)
own_after m n (a ∷ plans) taken once q among =
    ⊎_elim
    (λ same. subst (λ (b : Plan). IsPermutation (id_runs n b.id) (id_runs m b.id ++ as_runs b.id (fronts b.parts.items))) same
    (subst (λ (rs : List ZoneRun). IsPermutation rs (id_runs m a.id ++ as_runs a.id (fronts a.parts.items))) (sym (others_after taken.0 n plans a.id taken.3 (not_again plans a.id once.0))) taken.2.gained))
    (λ later.
    let other : q.id ≡ a.id → ⊥ = λ same. once.0 (subst (Contains (map (λ (p : Plan). p.id) plans)) same (in_map (λ (p : Plan). p.id) plans q later)) in
    subst (λ (rs : List ZoneRun). IsPermutation (id_runs n q.id) (rs ++ as_runs q.id (fronts q.parts.items))) (taken.2.others q.id other) (own_after taken.0 n plans taken.3 once.1 q later))
    (contains_cases a q plans among)

-- what goes back goes back after all is taken as well
given_after : (gone : List ℕ) (kept : List ZoneRun) (m n : Map) (plans : List Plan) → AreTaken m plans n
    → ((p : Plan) → Contains plans p → is_one_of gone p.id ≡ true → All (λ (part : ZoneRun). is_none (find (stands_at part) kept) ≡ false) (fronts p.parts.items))
    → filter (is_given gone kept) (all_runs n) ≡ filter (is_given gone kept) (all_runs m)
given_after gone kept m n [] same keeps = ap (λ (x : Map). filter (is_given gone kept) (all_runs x)) same
given_after gone kept m n (a ∷ plans) taken keeps =
    given_after gone kept taken.0 n plans taken.3 (λ p at. keeps p (contains_later a p plans at))
    ∙ given_after_take gone kept a.id (fronts a.parts.items) (keeps a (contains_here a plans)) m taken.0 taken.2.geometry taken.2.runs

-- ---- the step

module _ (m m' : Map) (plans : List Plan) (gone : List ℕ) (kept : List Part) (is : IsNewMap m) (t : TakesAndGives m plans gone kept) (moved : HasMoved m m' plans gone kept) where
  abbrev stay : List ZoneRun
  stay = fronts kept

  can : CanTakeAll moved.first.geometry (hole_runs moved.first) plans
  can =
      subst (λ (g : Geometry). CanTakeAll g (hole_runs moved.first) plans) (sym moved.same_runs.geometry) (subst (λ (hs : List ZoneRun). CanTakeAll m.geometry hs plans) (sym (holes_same m moved.first moved.same_runs)) t.can)

  -- no kept part stands where an identifier had a run
  none_kept : (p : ZoneRun) → Contains (all_runs m) p → is_hole p.1.kind ≡ false → find (stands_at p) stay ≡ None
  none_kept p at other = by (find (stands_at p) stay) refl
    where
      by : (o : Option ZoneRun) → find (stands_at p) stay ≡ o → o ≡ None
      by None e = refl
      by (Some q) e =
          let there = find_is (stands_at p) q stay e in
          let plan = t.kept_only q there.0 in
          absurd (none_found (stands_at p) (fronts plan.0.parts.items) q
          (away moved.first moved.taken plans moved.same_runs.map moved.takes can p (subst (λ (rs : List ZoneRun). Contains rs p) (sym (all_same m moved.first moved.same_runs)) at) other plan.0 plan.1) plan.2 there.1)

  kept_parts : (p : Plan) → Contains plans p → is_one_of gone p.id ≡ true → All (λ (part : ZoneRun). is_none (find (stands_at part) stay) ≡ false) (fronts p.parts.items)
  kept_parts p at goes k d low = t.all_kept p _ at (Contains-get_or (fronts p.parts.items) k d low) goes

  -- what goes back is what the identifiers had
  given_is : filter (is_given gone stay) (all_runs m) ≡ runs_that (is_one_of gone) m
  given_is = same_filter (is_given gone stay) (λ (p : ZoneRun). has_id_that (is_one_of gone) p.1.kind) (all_runs m) (λ p at. by p at (is_hole p.1.kind) refl)
    where
      of_hole : (kind : RunKind) → is_hole kind ≡ true → has_id_that (is_one_of gone) kind ≡ false
      of_hole Hole e = refl
      of_hole (Id k) e = absurd (cc)

      and_true : (b : Bool) → (b && true) ≡ b
      and_true true = refl
      and_true false = refl

      by : (p : ZoneRun) → Contains (all_runs m) p → (b : Bool) → is_hole p.1.kind ≡ b → is_given gone stay p ≡ has_id_that (is_one_of gone) p.1.kind
      by p at true e = let none = of_hole p.1.kind e in ap (λ (b : Bool). b && is_none (find (stands_at p) stay)) none ∙ sym none
      by p at false e = ap (λ (o : Option ZoneRun). has_id_that (is_one_of gone) p.1.kind && is_none o) (none_kept p at e) ∙ and_true (has_id_that (is_one_of gone) p.1.kind)

  -- of an identifier's old runs all go back, or none
  runs_stay : (k : ℕ) → filter (stays_given gone stay) (id_runs m k) ≡ unless_gone gone k (id_runs m k)
  runs_stay k =
      filter_all (stays_given gone stay) (not (is_one_of gone k)) (id_runs m k)
      (λ p at.
      let there = id_run_in m k p (geometry_facts m.geometry is.of_record).zones at in
      ap not (ap₂ (λ (b : Bool) (o : Option ZoneRun). b && is_none o) (of_kind p.1.kind there.1) (none_kept p there.0 (not_hole p.1.kind there.1)) ∙ and_true (is_one_of gone k)))
      ∙ turned (is_one_of gone k)
    where
      of_kind : (kind : RunKind) → has_id k kind ≡ true → has_id_that (is_one_of gone) kind ≡ is_one_of gone k
      of_kind Hole e = absurd (cc)
      of_kind (Id j) e = ap (is_one_of gone) (eqb-true j k e)

      not_hole : (kind : RunKind) → has_id k kind ≡ true → is_hole kind ≡ false
      not_hole Hole e = absurd (cc)
      not_hole (Id j) e = refl

      and_true : (b : Bool) → (b && true) ≡ b
      and_true true = refl
      and_true false = refl

      turned : (b : Bool) → cond (not b) (id_runs m k) [] ≡ cond b [] (id_runs m k)
      turned true = refl
      turned false = refl

  -- the parts that are taken stay
  parts_stay : (p : Plan) → Contains plans p → filter (stays_given gone stay) (as_runs p.id (fronts p.parts.items)) ≡ as_runs p.id (fronts p.parts.items)
  parts_stay p at =
      filter_all (stays_given gone stay) true (as_runs p.id (fronts p.parts.items))
      (λ q there.
      let r = from_map (with_id p.id) (fronts p.parts.items) q there in
      subst (λ (u : ZoneRun). stays_given gone stay u ≡ true) r.2 (by r.0 r.1 (is_one_of gone p.id) refl))
    where
      by : (r : ZoneRun) → Contains (fronts p.parts.items) r → (b : Bool) → is_one_of gone p.id ≡ b → stays_given gone stay (with_id p.id r) ≡ true
      by r there true goes = ap not (ap₂ (λ (b c : Bool). b && c) goes (t.all_kept p r at there goes))
      by r there false stays = ap not (ap (λ (b : Bool). b && is_none (find (stands_at r) stay)) stays)

  own_now : (p : Plan) → Contains plans p → IsPermutation (as_runs p.id (fronts p.parts.items)) (id_runs m' p.id)
  own_now p at =
      let parts : List ZoneRun = as_runs p.id (fronts p.parts.items) in
      let all : IsPermutation (id_runs moved.taken p.id) (id_runs m p.id ++ parts) =
      subst (λ (rs : List ZoneRun). IsPermutation (id_runs moved.taken p.id) (rs ++ parts)) (ids_same m moved.first moved.same_runs p.id) (own_after moved.first moved.taken plans moved.takes t.once p at) in
      let left = filter_moved (stays_given gone stay) (id_runs moved.taken p.id) (id_runs m p.id ++ parts) all in
      let none : filter (stays_given gone stay) (id_runs m p.id ++ parts) ≡ parts =
      filter_two (stays_given gone stay) (id_runs m p.id) parts ∙ ap₂ (λ (xs ys : List ZoneRun). xs ++ ys) (runs_stay p.id ∙ old_gone (t.ids p at)) (parts_stay p at) in
      IsPermutation-sym (id_runs m' p.id) parts
      (subst (λ (rs : List ZoneRun). IsPermutation rs parts) (sym (moved.of_ids p.id)) (subst (IsPermutation (filter (stays_given gone stay) (id_runs moved.taken p.id))) none left))
    where
      old_gone : (is_used m p.id ≡ false) ⊎ (is_one_of gone p.id ≡ true) → unless_gone gone p.id (id_runs m p.id) ≡ []
      old_gone (inl unused) = ap (λ (rs : List ZoneRun). cond (is_one_of gone p.id) [] rs) (no_runs m p.id (geometry_facts m.geometry is.of_record).zones unused) ∙ no_matter (is_one_of gone p.id)
        where
          no_matter : (b : Bool) → cond b [] [] ≡ (let rs : List ZoneRun = [] in rs)
          no_matter true = refl
          no_matter false = refl
      old_gone (inr goes) = ap (λ (b : Bool). cond b [] (id_runs m p.id)) goes

  pub space_change : IsSpaceChange m m' (takings_of plans) gone
  space_change = record {
    holes = λ z low. moved.holes z low
        ∙ ap₂ (λ (hs gs : List ZoneRun). holes_with (zone_holes hs z) (zone_holes gs z))
        (holes_after moved.first moved.taken plans moved.takes ∙ ap (λ (hs : List ZoneRun). untaken hs (takings_of plans)) (holes_same m moved.first moved.same_runs))
        (given_after gone stay moved.first moved.taken plans moved.takes kept_parts ∙ ap (filter (is_given gone stay)) (all_same m moved.first moved.same_runs) ∙ given_is);
    own = λ u at. (let p = from_map taking_of plans u at in subst (λ (v : Taking). IsPermutation (as_runs v.id v.parts) (id_runs m' v.id)) p.2 (own_now p.0 p.1));
    others = λ k none. moved.of_ids k
        ∙ ap (filter (stays_given gone stay)) (others_after moved.first moved.taken plans k moved.takes none ∙ ids_same m moved.first moved.same_runs k) ∙ runs_stay k;
  }

pub safe_space_law : SafeSpaceLaw
safe_space_law m m' plans gone kept is t moved = space_change m m' plans gone kept is t moved
