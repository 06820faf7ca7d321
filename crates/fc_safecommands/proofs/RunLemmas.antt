-- The runs of the identifier that changes, in the order of the disc: the parts of its plan.
use Rattle.std.proofs.Common.{◌≡◌, ◌<◌, ◌≤◌, ◌==◌, ◌||◌, ◌+◌, inl, inr, ℕ, zero, suc, Bool, true, false, cond, List, [], ◌∷◌, ◌++◌, append-nil, filter, flat_map, map, refl, sym, ap, ap₂, subst, ◌∙◌, arith, eq-eqb}
use Rattle.std.specs.Prelude.{Contains}
use Rattle.std.specs.List.{AllByRecursion, range_with_len}
use Rattle.std.proofs.lemmas.Bool.{eqb-true, ne_eqb}
use Rattle.std.proofs.lemmas.List.{map-append}
use Rattle.std.proofs.lemmas.List.Elements.{filter-append}
use Rattle.fc_record.specs.declared.Geometry.{Geometry}
use Rattle.fc_newmap.specs.Map.{Map, ZoneRun, has_id, runs_in, runs_of, search_order}
use Rattle.fc_newmap.specs.NewMap.{IsNewMap}
use Rattle.fc_newmap.specs.RunsLaw.{placed as placed_in}
use Rattle.fc_newmap.proofs.CoverLemmas.{Distinct, order_Distinct}
use Rattle.fc_newmap.proofs.HeldLemmas.{geometry_facts}
use Rattle.fc_newmap.proofs.PlaceLemmas.{in_order_of}
use Rattle.fc_image.specs.Layout.{is_among}
use Rattle.fc_image.specs.effects.Placed.{BeginsBefore}
use Rattle.fc_image.specs.safe.SafeSteady.{HaveRuns, disc_extents, place_in_zone}
use Rattle.fc_image.proofs.ShuffleLemmas.{filter-map}
use Rattle.fc_plan.specs.declared.plan.Plan.{Plan}
use Rattle.fc_plan.specs.Applied.{IsTakenIn, parts_in_order}
use Rattle.fc_plan.specs.Parts.{fronts}
use Rattle.fc_plan.specs.Taking.{as_runs, with_id}
use Rattle.fc_plan.proofs.GivenRuns.{at_zone}
use Rattle.fc_plan.proofs.Order.{Rising, rising_of}
use Rattle.fc_image.proofs.EntriesLemmas.{later as contains_later}
use Rattle.fc_tree.proofs.MemberLemmas.{contains_here}
use Rattle.fc_change.specs.declared.spaces.Spaces.{Spaces}
use Rattle.fc_safe.specs.FirstSpace.{ArePlacedFirst}
use Rattle.fc_safe.specs.Needs.{parts_of}
use Rattle.fc_safecommands.proofs.BackLemmas.{zone_part}
use Rattle.fc_safecommands.proofs.PlainLemmas.{PlainJob, h}
use Rattle.fc_safecommands.proofs.SpaceLemmas.{one, parts, placeable}

-- ---- parts that rise, zone by zone

abbrev pub IsFrom : ℕ → ZoneRun → Type 0
IsFrom a p = a ≤ p.0

abbrev pub IsBelow : ℕ → ZoneRun → Type 0
IsBelow a p = p.0 < a

none_at : (a : ℕ) (ps : List ZoneRun) → AllByRecursion (IsFrom (suc a)) ps → filter (at_zone a) ps ≡ []
none_at a [] above = refl
none_at a (p ∷ ps) above =
    let low = above.0 in
    ap₂ (λ (b : Bool) (xs : List ZoneRun). cond b (p ∷ xs) xs) (ne_eqb p.0 a (λ same. absurd (omega (arith, low, same)))) (none_at a ps above.1)

-- one that lies below counts for nothing
without_below : (n a : ℕ) (p : ZoneRun) (ps : List ZoneRun) → p.0 < a → flat_map (λ z. filter (at_zone z) (p ∷ ps)) (range_with_len a n) ≡ flat_map (λ z. filter (at_zone z) ps) (range_with_len a n)
without_below zero a p ps low = refl
without_below (suc n) a p ps low =
    ap₂ (λ (xs ys : List ZoneRun). xs ++ ys) (ap (λ (b : Bool). cond b (p ∷ filter (at_zone a) ps) (filter (at_zone a) ps)) (ne_eqb p.0 a (λ same. absurd (omega (arith, low, same)))))
    (without_below n (a + 1) p ps (omega (arith, low)))

above_all : (a : ℕ) (p : ZoneRun) (ps : List ZoneRun) → a < p.0 → AllByRecursion (BeginsBefore p) ps → AllByRecursion (IsFrom (suc a)) ps
above_all a p [] low before = tt
above_all a p (q ∷ ps) low before =
    (elim before.0 [ inl less ↦ omega (arith, low, less) | inr same ↦ (let e = same.0 in omega (arith, low, e)) ], above_all a p ps low before.1)

past : (a b : ℕ) → a ≤ b → (b ≡ a → ⊥) → suc a ≤ b
past zero zero low other = absurd (other refl)
past zero (suc b) low other = omega arith
past (suc a) zero low other = absurd (omega (arith, low))
past (suc a) (suc b) low other = let more = past a b (omega (arith, low)) (λ same. other (ap suc same)) in omega (arith, more)

pub by_zones : (n a : ℕ) (ps : List ZoneRun) → AllByRecursion (IsFrom a) ps → AllByRecursion (IsBelow (a + n)) ps → Rising ps → flat_map (λ z. filter (at_zone z) ps) (range_with_len a n) ≡ ps
by_zones zero a [] from below rising = refl
by_zones zero a (p ∷ ps) from below rising = absurd (let f = from.0 in let b = below.0 in omega (arith, f, b))
by_zones (suc n) a [] from below rising = by_zones n (a + 1) [] tt tt tt
by_zones (suc n) a (p ∷ ps) from below rising = by (p.0 == a) refl (by_zones (suc n) a ps from.1 below.1 rising.1) (λ all. by_zones n (a + 1) (p ∷ ps) (shift (p ∷ ps) all) (deeper (p ∷ ps) below) rising)
  where
    deeper : (qs : List ZoneRun) → AllByRecursion (IsBelow (a + suc n)) qs → AllByRecursion (IsBelow (a + 1 + n)) qs
    deeper [] b = tt
    deeper (q ∷ qs) b = ((let l = b.0 in omega (arith, l)), deeper qs b.1)

    shift : (qs : List ZoneRun) → AllByRecursion (IsFrom (suc a)) qs → AllByRecursion (IsFrom (a + 1)) qs
    shift [] b = tt
    shift (q ∷ qs) b = ((let l = b.0 in omega (arith, l)), shift qs b.1)

    by : (b : Bool) → (p.0 == a) ≡ b → flat_map (λ z. filter (at_zone z) ps) (range_with_len a (suc n)) ≡ ps
        → (AllByRecursion (IsFrom (suc a)) (p ∷ ps) → flat_map (λ z. filter (at_zone z) (p ∷ ps)) (range_with_len (a + 1) n) ≡ p ∷ ps) → flat_map (λ z. filter (at_zone z) (p ∷ ps)) (range_with_len a (suc n)) ≡ p ∷ ps
    by true e rest above =
        let same = eqb-true p.0 a e in
        ap₂ (λ (xs ys : List ZoneRun). xs ++ ys) (ap (λ (b : Bool). cond b (p ∷ filter (at_zone a) ps) (filter (at_zone a) ps)) e) (without_below n (a + 1) p ps (omega (arith, same)))
        ∙ ap (λ (xs : List ZoneRun). p ∷ xs) rest
    by false e rest above =
        let least = from.0 in
        let more : suc a ≤ p.0 = higher least in
        let all : AllByRecursion (IsFrom (suc a)) (p ∷ ps) = (more, above_all a p ps more rising.0) in
        ap₂ (λ (xs ys : List ZoneRun). xs ++ ys) (none_at a (p ∷ ps) all) (above all)
      where
        higher : a ≤ p.0 → suc a ≤ p.0
        higher least = past a p.0 least (λ same. absurd (let yes = eq-eqb p.0 a same in cc))

-- ---- the parts of one zone, of all in some order

twice : (z : ℕ) (ps : List ZoneRun) → filter (at_zone z) (filter (at_zone z) ps) ≡ filter (at_zone z) ps
twice z [] = refl
twice z (p ∷ ps) = by (p.0 == z) refl (twice z ps)
  where
    by : (b : Bool) → (p.0 == z) ≡ b → filter (at_zone z) (filter (at_zone z) ps) ≡ filter (at_zone z) ps → filter (at_zone z) (cond b (p ∷ filter (at_zone z) ps) (filter (at_zone z) ps)) ≡ cond b (p ∷ filter (at_zone z) ps) (filter (at_zone z) ps)
    by true e h = ap₂ (λ (b : Bool) (xs : List ZoneRun). cond b (p ∷ xs) xs) e h
    by false e h = h

other_zone : (z y : ℕ) → (y ≡ z → ⊥) → (ps : List ZoneRun) → filter (at_zone z) (filter (at_zone y) ps) ≡ []
other_zone z y other [] = refl
other_zone z y other (p ∷ ps) = by (p.0 == y) refl (other_zone z y other ps)
  where
    by : (b : Bool) → (p.0 == y) ≡ b → filter (at_zone z) (filter (at_zone y) ps) ≡ [] → filter (at_zone z) (cond b (p ∷ filter (at_zone y) ps) (filter (at_zone y) ps)) ≡ []
    by true e h = ap₂ (λ (b : Bool) (xs : List ZoneRun). cond b (p ∷ xs) xs) (ne_eqb p.0 z (λ same. other (sym (eqb-true p.0 y e) ∙ same))) h
    by false e h = h

module _ (z : ℕ) (ps : List ZoneRun) where
  abbrev of_zones : List ℕ → List ZoneRun
  of_zones zones = flat_map (λ y. filter (at_zone y) ps) zones

  none_of : (zones : List ℕ) → is_among zones z ≡ false → filter (at_zone z) (of_zones zones) ≡ []
  none_of [] none = refl
  none_of (y ∷ zones) none = by (y == z) refl (none_of zones) none
    where
      by : (b : Bool) → (y == z) ≡ b → (is_among zones z ≡ false → filter (at_zone z) (of_zones zones) ≡ []) → (b || is_among zones z) ≡ false → filter (at_zone z) (of_zones (y ∷ zones)) ≡ []
      by true e rest f = absurd (cc)
      by false e rest f =
          filter-append (at_zone z) (filter (at_zone y) ps) (of_zones zones)
          ∙ ap₂ (λ (xs ys : List ZoneRun). xs ++ ys) (other_zone z y (λ same. absurd (let yes = eq-eqb y z same in cc)) ps) (rest f)

  zone_of : (zones : List ℕ) → Distinct zones → is_among zones z ≡ true → filter (at_zone z) (of_zones zones) ≡ filter (at_zone z) ps
  zone_of [] once e = absurd (cc)
  zone_of (y ∷ zones) once e = by (y == z) refl (zone_of zones once.1) e
    where
      by : (b : Bool) → (y == z) ≡ b → (is_among zones z ≡ true → filter (at_zone z) (of_zones zones) ≡ filter (at_zone z) ps) → (b || is_among zones z) ≡ true → filter (at_zone z) (of_zones (y ∷ zones)) ≡ filter (at_zone z) ps
      by true f rest g =
          let same = eqb-true y z f in
          filter-append (at_zone z) (filter (at_zone y) ps) (of_zones zones)
          ∙ ap₂ (λ (xs ys : List ZoneRun). xs ++ ys) (ap (λ (k : ℕ). filter (at_zone z) (filter (at_zone k) ps)) same ∙ twice z ps) (none_of zones (ap (is_among zones) (sym same) ∙ once.0))
          ∙ append-nil (filter (at_zone z) ps)
      by false f rest g =
          filter-append (at_zone z) (filter (at_zone y) ps) (of_zones zones)
          ∙ ap₂ (λ (xs ys : List ZoneRun). xs ++ ys) (other_zone z y (λ same. absurd (let yes = eq-eqb y z same in cc)) ps) (rest g)

-- ---- an identifier that has what its plan says

module _ (m' : Map) (is : IsNewMap m') (plan : Plan) (taken : IsTakenIn m' plan) where
  abbrev ps : List ZoneRun
  ps = fronts plan.parts.items

  abbrev own : ZoneRun → Bool
  own p = has_id plan.id p.1.kind

  some : 1 ≤ m'.geometry.zones
  some = (geometry_facts m'.geometry is.of_record).zones

  in_one : (z : ℕ) → z < m'.geometry.zones → filter own (placed_in z (runs_of m' z)) ≡ as_runs plan.id (filter (at_zone z) ps)
  in_one z low =
      let zones = search_order m'.geometry plan.id in
      let once = order_Distinct m'.geometry plan.id in
      let there = in_order_of m'.geometry plan.id z some low in
      sym (zone_part own m' z zones once there)
      ∙ ap (filter (at_zone z)) taken.runs
      ∙ filter-map (at_zone z) (at_zone z) (with_id plan.id) (λ p. refl) (parts_in_order m'.geometry plan)
      ∙ ap (as_runs plan.id) (zone_of z ps zones once there)

  in_zones : (n a : ℕ) → a + n ≤ m'.geometry.zones → filter own (runs_in m' (range_with_len a n)) ≡ as_runs plan.id (flat_map (λ z. filter (at_zone z) ps) (range_with_len a n))
  in_zones zero a low = refl
  in_zones (suc n) a low =
      filter-append own (placed_in a (runs_of m' a)) (runs_in m' (range_with_len (a + 1) n))
      ∙ ap₂ (λ (xs ys : List ZoneRun). xs ++ ys) (in_one a (omega (arith, low))) (in_zones n (a + 1) (omega (arith, low)))
      ∙ sym (map-append (with_id plan.id) (filter (at_zone a) ps) (flat_map (λ z. filter (at_zone z) ps) (range_with_len (a + 1) n)))

  as_they_are : (qs : List ZoneRun) → map place_in_zone (as_runs plan.id qs) ≡ map place_in_zone qs
  as_they_are [] = refl
  as_they_are (q ∷ qs) = ap (λ (xs : List (ℕ × ℕ × ℕ)). place_in_zone q ∷ xs) (as_they_are qs)

  module _ (low : (p : ZoneRun) → Contains ps p → p.0 < m'.geometry.zones) (rising : Rising ps) where
    below : (qs : List ZoneRun) → ((p : ZoneRun) → Contains qs p → p.0 < m'.geometry.zones) → AllByRecursion (IsBelow (0 + m'.geometry.zones)) qs
    below [] l = tt
    below (q ∷ qs) l = ((let low = l q (contains_here q qs) in omega (arith, low)), below qs (λ p at. l p (contains_later q p qs at)))

    from : (qs : List ZoneRun) → AllByRecursion (IsFrom 0) qs
    from [] = tt
    from (q ∷ qs) = (omega arith, from qs)

    pub extents_are : disc_extents m' plan.id ≡ map place_in_zone ps
    extents_are =
        ap (map place_in_zone) (in_zones m'.geometry.zones 0 (omega arith) ∙ ap (as_runs plan.id) (by_zones m'.geometry.zones 0 ps (from ps) (below ps low) rising))
        ∙ as_they_are ps

-- ---- of the job

module _ (x : PlainJob) (s : Spaces) (placed : ArePlacedFirst x.m (h x) x.job x.wants s) where
  pub have_runs : (m' : Map) → IsNewMap m' → IsTakenIn m' (one x s placed).0 → m'.geometry ≡ x.m.geometry → HaveRuns m' (map (λ (p : Plan). p.id) placed.plans) (parts_of placed.plans)
  have_runs m' is taken geometry =
      subst (λ (plans : List Plan). HaveRuns m' (map (λ (p : Plan). p.id) plans) (parts_of plans)) (sym (one x s placed).1)
      (extents_are m' is (one x s placed).0 taken low (rising_of (parts x s placed) (placeable x s placed).rising), tt)
    where
      low : (p : ZoneRun) → Contains (parts x s placed) p → p.0 < m'.geometry.zones
      low p at = (let l = ((placeable x s placed).zones p at).zone in omega (arith, l, geometry_zones))
        where
          geometry_zones : m'.geometry.zones ≡ x.m.geometry.zones
          geometry_zones = ap (λ (k : Geometry). k.zones) geometry
