-- Zones of a list above and below one of the map's, and an identifier's runs in them.
use Rattle.std.proofs.Common.{◌≡◌, ◌<◌, ◌≤◌, ◌⊎◌, inl, inr, ℕ, zero, suc, ◌+◌, ◌-◌, Bool, true, false, cond, List, [], ◌∷◌, ◌++◌, length, length-append, take, drop, get_or, refl, sym, ap, ap₂, subst, ◌∙◌, append_assoc, append-nil, arith}
use Rattle.std.specs.Prelude.{◌==◌, ◌||◌, All, filter, nat_lt}
use Rattle.std.specs.List.{range_with_len}
use Rattle.std.proofs.lemmas.Bool.{cases_lt, eq-eqb, ne_eqb, le-ltb, lt-ltb}
use Rattle.std.proofs.lemmas.Grind.{flat_map-append}
use Rattle.std.proofs.lemmas.List.{take-append-drop, take_more}
use Rattle.std.proofs.lemmas.List.Elements.{All-append, All-filter, filter-append}
use Rattle.fc_newmap.specs.Map.{Map, ZoneRun, home_zone, id_runs, runs_in, runs_of, search_order}
use Rattle.fc_newmap.specs.RunsLaw.{placed}
use Rattle.fc_newmap.proofs.CoverLemmas.{range_cut}
use Rattle.fc_newmap.proofs.PlaceLemmas.{home_low}
use Rattle.fc_newmap.proofs.WalkLemmas.{of_id as of}
use Rattle.fc_compact.specs.Joins.{HoldsRuns, has_run_in, ids_in}
use Rattle.fc_newmap.specs.Walk.{StandsAt}
use Rattle.fc_compact.specs.declared.listed.ListedRuns.{ListedRuns}
use Rattle.fc_compact.specs.Listed.{StandsIn, runs_listed}
use Rattle.fc_compact.proofs.FoundLemmas.{no_ids, range_below}
use Rattle.fc_compact.proofs.HoldLemmas.{same_filter}

abbrev pub above : ℕ → List ℕ → List ℕ
above z zones = filter (λ y. nat_lt z y) zones

abbrev pub below : ℕ → List ℕ → List ℕ
below z zones = filter (λ y. nat_lt y z) zones

-- ---- how many there are

pub sides_few : (z : ℕ) (zones : List ℕ) → length (above z zones) + length (below z zones) ≤ length zones
sides_few z [] = omega arith
sides_few z (y ∷ zones) = by (nat_lt z y) (nat_lt y z) refl refl (sides_few z zones)
  where
    both : (a b : Bool) → nat_lt z y ≡ a → nat_lt y z ≡ b → a ≡ true → b ≡ true → ⊥
    both a b e f g h = by_order (cases_lt z y)
      where
        by_order : (z < y) ⊎ (y ≤ z) → ⊥
        by_order (inl less) = (let i = le-ltb y z (omega (arith, less)) in let j = sym i ∙ f ∙ h in cc)
        by_order (inr ge) = (let i = le-ltb z y ge in let j = sym i ∙ e ∙ g in cc)

    by : (a b : Bool) → nat_lt z y ≡ a → nat_lt y z ≡ b → length (above z zones) + length (below z zones) ≤ length zones
        → length (cond a (y ∷ above z zones) (above z zones)) + length (cond b (y ∷ below z zones) (below z zones)) ≤ length (y ∷ zones)
    by true true e f few = absurd (both true true e f refl refl)
    by true false e f few = omega (arith, few)
    by false true e f few = omega (arith, few)
    by false false e f few = omega (arith, few)

-- ---- of a map's zones that pass a test

keeps_all : (u t : ℕ → Bool) (from n : ℕ) → ((y : ℕ) → from ≤ y → y < from + n → u y ≡ true) → filter u (filter t (range_with_len from n)) ≡ filter t (range_with_len from n)
keeps_all u t from zero all = refl
keeps_all u t from (suc n) all = by (t from) (keeps_all u t (from + 1) n (λ y low high. all y (omega (arith, low)) (omega (arith, high))))
  where
    by : (b : Bool) → filter u (filter t (range_with_len (from + 1) n)) ≡ filter t (range_with_len (from + 1) n)
        → filter u (cond b (from ∷ filter t (range_with_len (from + 1) n)) (filter t (range_with_len (from + 1) n))) ≡ cond b (from ∷ filter t (range_with_len (from + 1) n)) (filter t (range_with_len (from + 1) n))
    by true e = ap (λ b. cond b (from ∷ filter u (filter t (range_with_len (from + 1) n))) (filter u (filter t (range_with_len (from + 1) n)))) (all from (omega arith) (omega arith)) ∙ ap (λ (xs : List ℕ). from ∷ xs) e
    by false e = e

keeps_none : (u t : ℕ → Bool) (from n : ℕ) → ((y : ℕ) → from ≤ y → y < from + n → u y ≡ false) → filter u (filter t (range_with_len from n)) ≡ []
keeps_none u t from zero none = refl
keeps_none u t from (suc n) none = by (t from) (keeps_none u t (from + 1) n (λ y low high. none y (omega (arith, low)) (omega (arith, high))))
  where
    by : (b : Bool) → filter u (filter t (range_with_len (from + 1) n)) ≡ []
        → filter u (cond b (from ∷ filter t (range_with_len (from + 1) n)) (filter t (range_with_len (from + 1) n))) ≡ []
    by true e = ap (λ b. cond b (from ∷ filter u (filter t (range_with_len (from + 1) n))) (filter u (filter t (range_with_len (from + 1) n)))) (none from (omega arith) (omega arith)) ∙ e
    by false e = e

module _ (t : ℕ → Bool) (z n : ℕ) (low : z < n) where
  -- those below z, z, and those above
  pub cut_at : filter t (range_with_len 0 n) ≡ filter t (range_with_len 0 z) ++ (filter t (z ∷ []) ++ filter t (range_with_len (z + 1) (n - (z + 1))))
  cut_at =
      ap (λ (k : ℕ). filter t (range_with_len 0 k)) (let e : n ≡ z + (1 + (n - (z + 1))) = omega (arith, low) in e)
      ∙ ap (filter t) (range_cut 0 z (1 + (n - (z + 1))))
      ∙ filter-append t (range_with_len 0 z) (range_with_len (0 + z) (1 + (n - (z + 1))))
      ∙ ap (λ (k : ℕ). filter t (range_with_len 0 z) ++ filter t (range_with_len k (1 + (n - (z + 1))))) (let e : 0 + z ≡ z = omega arith in e)
      ∙ ap (λ (xs : List ℕ). filter t (range_with_len 0 z) ++ filter t xs) (range_cut z 1 (n - (z + 1)))
      ∙ ap (λ (xs : List ℕ). filter t (range_with_len 0 z) ++ xs) (filter-append t (z ∷ []) (range_with_len (z + 1) (n - (z + 1))))

  not_below : below z (filter t (z ∷ [])) ≡ []
  not_below = by (t z)
    where
      by : (b : Bool) → below z (cond b (z ∷ []) []) ≡ []
      by true = ap (λ b. cond b (z ∷ []) []) (le-ltb z z (omega arith))
      by false = refl

  pub below_is : below z (filter t (range_with_len 0 n)) ≡ filter t (range_with_len 0 z)
  below_is =
      let u : ℕ → Bool = λ y. nat_lt y z in
      ap (below z) cut_at
      ∙ filter-append u (filter t (range_with_len 0 z)) (filter t (z ∷ []) ++ filter t (range_with_len (z + 1) (n - (z + 1))))
      ∙ ap₂ (λ (xs ys : List ℕ). xs ++ ys) (keeps_all u t 0 z (λ y from less. lt-ltb y z (omega (arith, less))))
      (filter-append u (filter t (z ∷ [])) (filter t (range_with_len (z + 1) (n - (z + 1))))
      ∙ ap₂ (λ (xs ys : List ℕ). xs ++ ys) not_below (keeps_none u t (z + 1) (n - (z + 1)) (λ y from to. le-ltb y z (omega (arith, from)))))
      ∙ append-nil (filter t (range_with_len 0 z))

  pub above_is : above z (filter t (range_with_len 0 n)) ≡ filter t (range_with_len (z + 1) (n - (z + 1)))
  above_is =
      let u : ℕ → Bool = λ y. nat_lt z y in
      ap (above z) cut_at
      ∙ filter-append u (filter t (range_with_len 0 z)) (filter t (z ∷ []) ++ filter t (range_with_len (z + 1) (n - (z + 1))))
      ∙ ap₂ (λ (xs ys : List ℕ). xs ++ ys) (keeps_none u t 0 z (λ y from to. le-ltb z y (omega (arith, to))))
      (filter-append u (filter t (z ∷ [])) (filter t (range_with_len (z + 1) (n - (z + 1))))
      ∙ ap₂ (λ (xs ys : List ℕ). xs ++ ys) not_here (keeps_all u t (z + 1) (n - (z + 1)) (λ y from to. lt-ltb z y (omega (arith, from)))))
    where
      not_here : above z (filter t (z ∷ [])) ≡ []
      not_here = by (t z)
        where
          by : (b : Bool) → above z (cond b (z ∷ []) []) ≡ []
          by true = ap (λ b. cond b (z ∷ []) []) (le-ltb z z (omega arith))
          by false = refl

-- one zone more
pub zone_added : (t : ℕ → Bool) (z n : ℕ) → z < n → below z (filter t (range_with_len 0 n)) ++ z ∷ above z (filter t (range_with_len 0 n)) ≡ filter (λ y. (y == z) || t y) (range_with_len 0 n)
zone_added t z n low =
    let u : ℕ → Bool = λ y. (y == z) || t y in
    let other : (y : ℕ) → (y ≡ z → ⊥) → t y ≡ u y = λ y ne. sym (ap (λ b. b || t y) (ne_eqb y z ne)) in
    ap₂ (λ (xs ys : List ℕ). xs ++ z ∷ ys)
    (below_is t z n low ∙ same_filter t u 0 z (λ y from to. other y (λ e. omega (arith, to, e))))
    (above_is t z n low ∙ same_filter t u (z + 1) (n - (z + 1)) (λ y from to. other y (λ e. omega (arith, from, e))))
    ∙ ap (λ b. filter u (range_with_len 0 z) ++ (cond (b || t z) (z ∷ []) [] ++ filter u (range_with_len (z + 1) (n - (z + 1))))) (sym (eq-eqb z z refl))
    ∙ sym (cut_at u z n low)

-- ---- an identifier's runs in them

in_zones : (m : Map) (id : ℕ) (zones : List ℕ) → filter (of id) (runs_in m zones) ≡ runs_listed m id zones
in_zones m id [] = refl
in_zones m id (z ∷ zones) = filter-append (of id) (placed z (runs_of m z)) (runs_in m zones) ∙ ap (λ (ps : List ZoneRun). ids_in m id z ++ ps) (in_zones m id zones)

only_those : (m : Map) (id : ℕ) (t : ℕ → Bool) → ((z : ℕ) → has_run_in m id z ≡ true → t z ≡ true) → (zones : List ℕ) → runs_listed m id (filter t zones) ≡ runs_listed m id zones
only_those m id t all [] = refl
only_those m id t all (z ∷ zones) = by (t z) refl (only_those m id t all zones)
  where
    by : (b : Bool) → t z ≡ b → runs_listed m id (filter t zones) ≡ runs_listed m id zones
        → runs_listed m id (cond b (z ∷ filter t zones) (filter t zones)) ≡ ids_in m id z ++ runs_listed m id zones
    by true e same = ap (λ (ps : List ZoneRun). ids_in m id z ++ ps) same
    by false e same = same ∙ ap (λ (ps : List ZoneRun). ps ++ runs_listed m id zones) (sym (no_ids m id z (λ there. (let f = all z there in let g = sym e ∙ f in cc))))

-- all runs of an identifier, in their order: those in the zone in which they are looked for first, in the zones above it, and in those below
pub in_order : (m : Map) (id : ℕ) (zones : List ℕ) → 1 ≤ m.geometry.zones → HoldsRuns m id zones
    → id_runs m id ≡ ids_in m id (home_zone m.geometry id) ++ runs_listed m id (above (home_zone m.geometry id) zones ++ below (home_zone m.geometry id) zones)
in_order m id zones some holds =
    let g = m.geometry in
    let home = home_zone g id in
    let n = g.zones in
    let low = home_low g id some in
    let t = holds.test in
    let back = range_with_len (home + 1) (n - (home + 1)) in
    let front = range_with_len 0 home in
    let cut : search_order g id ≡ (home ∷ back) ++ front =
    ap (λ (k : ℕ). range_with_len home k ++ front) (let e : n - home ≡ 1 + (n - (home + 1)) = omega (arith, low) in e) ∙ ap (λ (xs : List ℕ). xs ++ front) (range_cut home 1 (n - (home + 1))) in
    in_zones m id (search_order g id)
    ∙ ap (runs_listed m id) (cut ∙ append_assoc (home ∷ []) back front)
    ∙ ap (λ (ps : List ZoneRun). ids_in m id home ++ ps)
    (flat_map-append (ids_in m id) back front
    ∙ ap₂ (λ (ps qs : List ZoneRun). ps ++ qs)
    (sym (only_those m id t holds.all back) ∙ ap (runs_listed m id) (sym (ap (above home) holds.are ∙ above_is t home n low)))
    (sym (only_those m id t holds.all front) ∙ ap (runs_listed m id) (sym (ap (below home) holds.are ∙ below_is t home n low)))
    ∙ sym (flat_map-append (ids_in m id) (above home zones) (below home zones)))

-- ---- a zone more that is above, or below

module _ (u : ℕ → Bool) (zones : List ℕ) (i : ℕ) (lt : i < length zones) where
  pub kept_more : filter u (take (i + 1) zones) ≡ cond (u (get_or zones i 0)) (filter u (take i zones) ++ get_or zones i 0 ∷ []) (filter u (take i zones))
  kept_more =
      ap (filter u) (take_more zones i 0 lt) ∙ filter-append u (take i zones) (get_or zones i 0 ∷ []) ∙ by (u (get_or zones i 0))
    where
      by : (b : Bool) → filter u (take i zones) ++ cond b (get_or zones i 0 ∷ []) [] ≡ cond b (filter u (take i zones) ++ get_or zones i 0 ∷ []) (filter u (take i zones))
      by true = refl
      by false = append-nil (filter u (take i zones))

  pub kept_room : u (get_or zones i 0) ≡ true → length (filter u (take i zones)) + 1 ≤ length (filter u zones)
  kept_room e =
      let front = filter u (take (i + 1) zones) in
      let back = filter u (drop (i + 1) zones) in
      let all : filter u zones ≡ front ++ back = ap (filter u) (sym (take-append-drop (i + 1) zones)) ∙ filter-append u (take (i + 1) zones) (drop (i + 1) zones) in
      let more : front ≡ filter u (take i zones) ++ get_or zones i 0 ∷ [] = kept_more ∙ ap (λ b. cond b (filter u (take i zones) ++ get_or zones i 0 ∷ []) (filter u (take i zones))) e in
      omega (arith, ap length all, length-append front back, ap length more, length-append (filter u (take i zones)) (get_or zones i 0 ∷ []))

  pub put_more : (start list new : List ℕ) (flag : Bool) → flag ≡ u (get_or zones i 0) → new ≡ cond flag (list ++ get_or zones i 0 ∷ []) list → list ≡ start ++ filter u (take i zones) → new ≡ start ++ filter u (take (i + 1) zones)
  put_more start list new flag f e was =
      e ∙ ap₂ (λ (b : Bool) (xs : List ℕ). cond b (xs ++ get_or zones i 0 ∷ []) xs) f was ∙ by (u (get_or zones i 0)) ∙ ap (λ (xs : List ℕ). start ++ xs) (sym kept_more)
    where
      by : (b : Bool) → cond b ((start ++ filter u (take i zones)) ++ get_or zones i 0 ∷ []) (start ++ filter u (take i zones)) ≡ start ++ cond b (filter u (take i zones) ++ get_or zones i 0 ∷ []) (filter u (take i zones))
      by true = append_assoc start (filter u (take i zones)) (get_or zones i 0 ∷ [])
      by false = refl

-- ---- where a walk over them begins

pub started : (m : Map) (id : ℕ) (zones : List ℕ) (walk : ListedRuns) → 1 ≤ m.geometry.zones → HoldsRuns m id zones → walk.id ≡ id → walk.come ≡ 0
    → walk.zones.items ≡ above (home_zone m.geometry id) zones ++ below (home_zone m.geometry id) zones → StandsAt m (ids_in m id (home_zone m.geometry id)) walk.cursor → StandsIn m (id_runs m id) walk
started m id zones walk some holds same none order cursor =
    let home = home_zone m.geometry id in
    let all : All (λ y. y < m.geometry.zones) zones = subst (All (λ y. y < m.geometry.zones)) (sym holds.are) (All-filter holds.test (λ (y : ℕ). y < m.geometry.zones) (range_with_len 0 m.geometry.zones) (range_below m.geometry.zones)) in
    record {
      here = ids_in m id home;
      cursor = cursor;
      low = subst (All (λ y. y < m.geometry.zones)) (sym order)
          (All-append (λ (y : ℕ). y < m.geometry.zones) (above home zones) (below home zones) (All-filter (λ y. nat_lt home y) (λ (y : ℕ). y < m.geometry.zones) zones all) (All-filter (λ y. nat_lt y home) (λ (y : ℕ). y < m.geometry.zones) zones all));
      rest = in_order m id zones some holds
          ∙ ap (λ (xs : List ℕ). ids_in m id home ++ runs_listed m id xs) (sym order)
          ∙ ap₂ (λ (k j : ℕ). ids_in m id home ++ runs_listed m k (drop j walk.zones.items)) (sym same) (sym none);
    }
