-- The sectors of an object in new space, before the map has its runs.
use Rattle.std.proofs.Common.{◌≡◌, ◌<◌, ◌≤◌, ◌&&◌, ◌==◌, ◌+◌, ◌-◌, ◌*◌, ◌/◌, ◌%◌, inl, inr, max, min, ℕ, zero, suc, Bool, true, false, cond, List, [], ◌∷◌, ◌++◌, get_or, length, take, drop, filter, nat_le, refl, sym, ap, ap₂, subst, ◌∙◌, arith, Some, None, Option, append-nil, append_assoc, eq-eqb}
use Rattle.std.specs.Prelude.{All, AllPairs, Contains, IsPermutation, nat_lt, not}
use Rattle.std.specs.List.{AllByRecursion, flat_map, range_with_len}
use Rattle.std.specs.Int.{div_ceil, next_multiple_of}
use Rattle.std.proofs.Math.Nat.{lt_of_mul-lt-mul_right, mul-le-mul_right, mul_assoc}
use Rattle.std.proofs.lemmas.Bool.{cases_eq, cases_lt, le-leb, le-ltb, lt-ltb, ne_eqb}
use Rattle.std.proofs.lemmas.Grind.{div_ceil_times, flat_map-append}
use Rattle.std.proofs.lemmas.List.{length-append, map-append}
use Rattle.std.proofs.lemmas.List.Elements.{All-contains, All-from_recursion, Contains-get_or, filter-append, recursion_from_All}
use Rattle.std.proofs.lemmas.List.FromFn.{length-range_with_len}
use Rattle.std.proofs.lemmas.List.Sorted.{All-permutation, IsPermutation-sym, sum_by-IsPermutation}
use Rattle.std.proofs.lemmas.List.Sums.{sum_by-cons}
use Rattle.std.proofs.lemmas.Nat.{div-add-mod', div-mul-add, le-div}
use Rattle.fc_device.specs.declared.disk.Extent.{Extent}
use Rattle.fc_objects.specs.Extents.{extent_sectors, sectors_in}
use Rattle.fc_record.specs.declared.Geometry.{Geometry}
use Rattle.fc_record.specs.Record.{end_bit, first_bit, id_limit}
use Rattle.fc_newmap.specs.Map.{Map, ZoneRun, bits_in, extent_of, first_sector, home_zone, hole_runs, id_runs, is_used, run_sectors, search_order, sector_count, sectors_of}
use Rattle.fc_newmap.specs.NewMap.{IsNewMap}
use Rattle.fc_newmap.specs.RunsLaw.{IsGeometry}
use Rattle.fc_newmap.specs.Walk.{IsInZone}
use Rattle.fc_newmap.proofs.GeometryLemmas.{geometry_of_valid}
use Rattle.fc_newmap.proofs.RunsLemmas.{sectors_add}
use Rattle.fc_image.specs.Layout.{Layout, first_part, id_of, id_sectors, is_object_id, low_of, low_start, new_sectors, sectors_at}
use Rattle.fc_image.proofs.EntriesLemmas.{from_filter, in_mapped}
use Rattle.fc_image.specs.effects.Placed.{BeginsBefore, HasRunLength}
use Rattle.fc_image.specs.effects.Sharing.{units}
use Rattle.fc_space.specs.Index.{is_met}
use Rattle.fc_space.specs.Space.{HaveSectors}
use Rattle.fc_plan.specs.declared.plan.Part.{Part}
use Rattle.fc_plan.specs.declared.plan.Plan.{Plan}
use Rattle.fc_plan.specs.Parts.{front_at, fronts}
use Rattle.fc_plan.specs.Taking.{as_runs, with_id}
use Rattle.fc_plan.proofs.InOrder.{none_listed, own_of_new, parts_in_turn, unused_none}
use Rattle.fc_plan.proofs.MapLemmas.{IsPlaced, holes_placed}
use Rattle.fc_plan.proofs.Order.{Rising, rising_of, same_place}
use Rattle.fc_plan.proofs.Shorts.{are_new_ids}
use Rattle.fc_plan.proofs.Units.{units_whole}
use Rattle.fc_changes.proofs.BasicLemmas.{and_false, cases_cons, first_in, next_in}
use Rattle.fc_placing.specs.Extents.{IsOwnPlace, parts_met, sectors_if}
use Rattle.fc_placing.specs.Places.{IsOwnPlan}
use Rattle.fc_changes.specs.Space.{HasTaken}
use Rattle.fc_placing.proofs.AddressLemmas.{bit_positive}
use Rattle.fc_changes.proofs.StepsLemmas.{low_in_range}
use Rattle.fc_placing.proofs.LowLemmas.{not_le as over}
use Rattle.fc_plan.proofs.Applies.{and_true}

-- ---- lists

pub take_append : (n : ℕ) (xs ys : List ℕ) → take n (xs ++ ys) ≡ take n xs ++ take (n - length xs) ys
take_append zero xs ys = by (0 - length xs) (omega arith)
  where
    by : (k : ℕ) → k ≡ 0 → (let none : List ℕ = [] in none) ≡ take k ys
    by k e = sym (ap (λ (j : ℕ). take j ys) e)
take_append (suc n) [] ys = ap (λ (k : ℕ). take k ys) (let e : suc n ≡ suc n - length (let none : List ℕ = [] in none) = omega arith in e)
take_append (suc n) (x ∷ xs) ys = ap (λ (zs : List ℕ). x ∷ zs) (take_append n xs ys) ∙ ap (λ (k : ℕ). x ∷ (take n xs ++ take k ys)) (let e : n - length xs ≡ suc n - suc (length xs) = omega arith in e)

pub sectors_append : (g : Geometry) (xs ys : List ZoneRun) → sectors_of g (xs ++ ys) ≡ sectors_of g xs ++ sectors_of g ys
sectors_append g xs ys = flat_map-append (run_sectors g) xs ys

-- ---- parts that are added one after another

-- the sectors of these parts were added, those that are met, as many as are needed
pub record ArePushed (g : Geometry) (id : ℕ) (ahead : Bool) (old now : List Extent) (all need : ℕ) (done : List Part) : Type 0 where
  pub sectors : sectors_in now ≡ sectors_in old ++ take all (sectors_of g (parts_met g id ahead (fronts done)))
  pub left : need ≡ all - length (sectors_of g (parts_met g id ahead (fronts done)))
  pub each : HaveSectors old → HaveSectors now

-- one more part
pub met_more : (g : Geometry) (id : ℕ) (ahead : Bool) (done : List Part) (part : Part) → sectors_of g (parts_met g id ahead (fronts (done ++ part ∷ []))) ≡ sectors_of g (parts_met g id ahead (fronts done)) ++ sectors_if g (is_met g ahead id part.zone) (front_at part)
met_more g id ahead done part =
    ap (λ (ps : List ZoneRun). sectors_of g (parts_met g id ahead ps)) (map-append front_at done (part ∷ []))
    ∙ ap (sectors_of g) (filter-append (λ (p : ZoneRun). is_met g ahead id p.0) (fronts done) (front_at part ∷ []))
    ∙ sectors_append g (parts_met g id ahead (fronts done)) (parts_met g id ahead (front_at part ∷ []))
    ∙ ap (λ (xs : List ℕ). sectors_of g (parts_met g id ahead (fronts done)) ++ xs) (by (is_met g ahead id part.zone))
  where
    by : (b : Bool) → sectors_of g (cond b (front_at part ∷ []) []) ≡ sectors_if g b (front_at part)
    by true = append-nil (run_sectors g (front_at part))
    by false = refl

pub part_pushed : (g : Geometry) (id : ℕ) (ahead met : Bool) (old mid now : List Extent) (all need left : ℕ) (done now_done : List Part) (part : Part) → ArePushed g id ahead old mid all need done
    → met ≡ is_met g ahead id part.zone → sectors_in now ≡ sectors_in mid ++ take need (sectors_if g met (front_at part)) → left ≡ need - length (sectors_if g met (front_at part))
    → (HaveSectors mid → HaveSectors now) → now_done ≡ done ++ part ∷ [] → ArePushed g id ahead old now all left now_done
part_pushed g id ahead met old mid now all need left done now_done part so_far met_is sectors left_is each more = record {
  sectors =
      sectors ∙ ap₂ (λ (xs ys : List ℕ). xs ++ ys) so_far.sectors (ap₂ (λ (n : ℕ) (b : Bool). take n (sectors_if g b (front_at part))) so_far.left met_is)
      ∙ append_assoc (sectors_in old) (take all had) (take (all - length had) one)
      ∙ ap (λ (xs : List ℕ). sectors_in old ++ xs) (sym (take_append all had one)) ∙ ap (λ (xs : List ℕ). sectors_in old ++ take all xs) (sym with_one);
  left =
      left_is ∙ ap₂ (λ (n : ℕ) (b : Bool). n - length (sectors_if g b (front_at part))) so_far.left met_is
      ∙ (let long = length-append had one in let e : all - length had - length one ≡ all - length (had ++ one) = omega (arith, long) in e) ∙ ap (λ (xs : List ℕ). all - length xs) (sym with_one);
  each = λ h. each (so_far.each h);
}
  where
    had : List ℕ
    had = sectors_of g (parts_met g id ahead (fronts done))

    one : List ℕ
    one = sectors_if g (is_met g ahead id part.zone) (front_at part)

    with_one : sectors_of g (parts_met g id ahead (fronts now_done)) ≡ had ++ one
    with_one = ap (λ (ds : List Part). sectors_of g (parts_met g id ahead (fronts ds))) more ∙ met_more g id ahead done part

-- ---- parts in the order of the search

within : ℕ → ℕ → ZoneRun → Bool
within a n p = nat_le a p.0 && nat_lt p.0 (a + n)

no_filter : (t : ZoneRun → Bool) (ps : List ZoneRun) → ((p : ZoneRun) → Contains ps p → t p ≡ false) → filter t ps ≡ []
no_filter t [] none = refl
no_filter t (p ∷ ps) none = ap₂ (λ (b : Bool) (qs : List ZoneRun). cond b (p ∷ qs) qs) (none p (first_in p ps)) (no_filter t ps (λ q at. none q (next_in p q ps at)))

filter_same : (t s : ZoneRun → Bool) (ps : List ZoneRun) → ((p : ZoneRun) → Contains ps p → t p ≡ s p) → filter t ps ≡ filter s ps
filter_same t s [] same = refl
filter_same t s (p ∷ ps) same = ap₂ (λ (b : Bool) (qs : List ZoneRun). cond b (p ∷ qs) qs) (same p (first_in p ps)) (filter_same t s ps (λ q at. same q (next_in p q ps at)))

not_both : (a b : ℕ) → (a ≡ b → ⊥) → (a == b) ≡ false
not_both a b ne = ne_eqb a b ne

module _ (a n : ℕ) where
  at_first : (p : ZoneRun) → p.0 ≡ a → ((p.0 == a) ≡ true) × (within (a + 1) n p ≡ false) × (within a (suc n) p ≡ true)
  unfolding within
  at_first p e = (
    eq-eqb p.0 a e,
    ap (λ (b : Bool). b && nat_lt p.0 (a + 1 + n)) (over (a + 1) p.0 (omega (arith, e))),
    ap₂ (λ (b c : Bool). b && c) (le-leb a p.0 (omega (arith, e))) (lt-ltb p.0 (a + suc n) (omega (arith, e))),
  )

  at_before : (p : ZoneRun) → p.0 < a → ((p.0 == a) ≡ false) × (within (a + 1) n p ≡ false) × (within a (suc n) p ≡ false)
  unfolding within
  at_before p less = (
    not_both p.0 a (λ e. omega (arith, e, less)),
    ap (λ (b : Bool). b && nat_lt p.0 (a + 1 + n)) (over (a + 1) p.0 (omega (arith, less))),
    ap (λ (b : Bool). b && nat_lt p.0 (a + suc n)) (over a p.0 less),
  )

  at_after : (p : ZoneRun) → a < p.0 → ((p.0 == a) ≡ false) × (within (a + 1) n p ≡ within a (suc n) p)
  unfolding within
  at_after p more = (
    not_both p.0 a (λ e. omega (arith, e, more)),
    ap₂ (λ (b : Bool) (k : ℕ). b && nat_lt p.0 k) (le-leb (a + 1) p.0 (omega (arith, more)) ∙ sym (le-leb a p.0 (omega (arith, more)))) (let e : a + 1 + n ≡ a + suc n = omega arith in e),
  )

  one_zone : (ps : List ZoneRun) → Rising ps → filter (λ p. p.0 == a) ps ++ filter (within (a + 1) n) ps ≡ filter (within a (suc n)) ps
  one_zone [] rising = refl
  one_zone (p ∷ ps) rising = elim (cases_lt p.0 a) [
    | inl before ↦ (let t = at_before p before in rw (t.0, t.1, t.2) (one_zone ps rising.1))
    | inr later ↦ elim (cases_eq p.0 a) [
      | inl here ↦ (let t = at_first p here in rw (t.0, t.1, t.2) (ap (λ (qs : List ZoneRun). p ∷ qs) (one_zone ps rising.1)))
      | inr other ↦
          (let more : a < p.0 = by_order p.0 a later other in
          let all : (q : ZoneRun) → Contains (p ∷ ps) q → a < q.0 = λ q at. behind_first q more at in
          ap₂ (λ (xs ys : List ZoneRun). xs ++ ys) (no_filter (λ q. q.0 == a) (p ∷ ps) (λ q at. (at_after q (all q at)).0))
          (filter_same (within (a + 1) n) (within a (suc n)) (p ∷ ps) (λ q at. (at_after q (all q at)).1)))
    ]
  ]
    where
      by_order : (x y : ℕ) → y ≤ x → (x ≡ y → ⊥) → y < x
      by_order x y le ne = elim (cases_lt y x) [ inl less ↦ less | inr more ↦ absurd (ne (omega (arith, le, more))) ]

      behind_first : (q : ZoneRun) → a < p.0 → Contains (p ∷ ps) q → a < q.0
      behind_first q more at = elim (cases_cons p ps q at) [
        | inl same ↦ subst (λ (r : ZoneRun). a < r.0) same more
        | inr later ↦ elim (All-contains (BeginsBefore p) ps q (All-from_recursion (BeginsBefore p) ps rising.0) later) [
          | inl zone ↦ omega (arith, more, zone)
          | inr place ↦ (let zone = place.0 in omega (arith, more, zone))
        ]
      ]

by_zones : (n a : ℕ) (ps : List ZoneRun) → Rising ps → flat_map (λ z. filter (λ p. p.0 == z) ps) (range_with_len a n) ≡ filter (within a n) ps
unfolding within
by_zones zero a ps rising = sym (no_filter (within a 0) ps (λ p at. outside p))
  where
    outside : (p : ZoneRun) → (nat_le a p.0 && nat_lt p.0 (a + 0)) ≡ false
    outside p = elim (cases_lt p.0 a) [
      | inl less ↦ ap (λ (b : Bool). b && nat_lt p.0 (a + 0)) (over a p.0 less)
      | inr more ↦ ap (λ (b : Bool). nat_le a p.0 && b) (le-ltb p.0 (a + 0) (omega (arith, more))) ∙ and_false (nat_le a p.0)
    ]
by_zones (suc zero) a ps rising = ap (λ (qs : List ZoneRun). filter (λ p. p.0 == a) ps ++ qs) (by_zones zero (a + 1) ps rising) ∙ one_zone a zero ps rising
by_zones (suc (suc n)) a ps rising = ap (λ (qs : List ZoneRun). filter (λ p. p.0 == a) ps ++ qs) (by_zones (suc n) (a + 1) ps rising) ∙ one_zone a (suc n) ps rising

-- first those that are met before the search turns, then the others
pub ordered : (g : Geometry) (id : ℕ) (parts : List ZoneRun) → AllPairs BeginsBefore parts → ((p : ZoneRun) → Contains parts p → p.0 < g.zones)
    → flat_map (λ z. filter (λ p. p.0 == z) parts) (search_order g id) ≡ parts_met g id true parts ++ parts_met g id false parts
unfolding within
ordered g id parts rising low =
    let home = home_zone g id in
    flat_map-append (λ z. filter (λ p. p.0 == z) parts) (range_with_len home (g.zones - home)) (range_with_len 0 home)
    ∙ ap₂ (λ (xs ys : List ZoneRun). xs ++ ys)
    (by_zones (g.zones - home) home parts (rising_of parts rising)
    ∙ filter_same (within home (g.zones - home)) (λ p. is_met g true id p.0) parts
    (λ p at. ap (λ (b : Bool). nat_le home p.0 && b) (lt-ltb p.0 (home + (g.zones - home)) (let below = low p at in omega (arith, below))) ∙ and_true (nat_le home p.0)))
    (by_zones home 0 parts (rising_of parts rising)
    ∙ filter_same (within 0 home) (λ p. is_met g false id p.0) parts
    (λ p at. ap₂ (λ (b : Bool) (k : ℕ). b && nat_lt p.0 k) (le-leb 0 p.0 (omega arith)) (let e : 0 + home ≡ home = omega arith in e)))

-- ---- how many sectors there are

pub long_runs : (g : Geometry) (runs : List ZoneRun) → 0 < g.sector → (g.q * g.bit_bytes) % g.sector ≡ 0 → AllByRecursion (λ (p : ZoneRun). p.1.len % g.q ≡ 0) runs
    → length (sectors_of g runs) ≡ bits_in runs * g.bit_bytes / g.sector
long_runs g [] some whole all = sym (ap (λ (n : ℕ). n / g.sector) (let e : 0 * g.bit_bytes ≡ 0 * g.sector + 0 = omega arith in e) ∙ div-mul-add 0 g.sector 0 some)
long_runs g (p ∷ runs) some whole all =
    length-append (run_sectors g p) (sectors_of g runs)
    ∙ ap₂ (λ (a b : ℕ). a + b) (length-range_with_len (first_sector g p) (sector_count g p)) (long_runs g runs some whole all.1)
    ∙ sym (sectors_add g.q g.bit_bytes g.sector p.1.len (bits_in runs) some whole all.0)
    ∙ ap (λ (n : ℕ). n * g.bit_bytes / g.sector) (sym (sum_by-cons (λ (q : ZoneRun). q.1.len) p runs))

-- some whole sectors with room for bytes are enough sectors
pub enough_sectors : (g : Geometry) (bytes bits most : ℕ) → 0 < g.sector → (g.q * g.bit_bytes) % g.sector ≡ 0 → bits % g.q ≡ 0 → bytes ≤ bits * g.bit_bytes → bits ≤ most
    → div_ceil bytes g.sector ≤ most * g.bit_bytes / g.sector
enough_sectors g bytes bits most some whole even room fits =
    let k = bits / g.q * (g.q * g.bit_bytes / g.sector) in
    let wholes : bits / g.q * g.q ≡ bits = omega (arith, div-add-mod' bits g.q, even) in
    let parts : g.q * g.bit_bytes / g.sector * g.sector ≡ g.q * g.bit_bytes = omega (arith, div-add-mod' (g.q * g.bit_bytes) g.sector, whole) in
    let exact : bits * g.bit_bytes ≡ k * g.sector =
    ap (λ n. n * g.bit_bytes) (sym wholes) ∙ mul_assoc (bits / g.q) g.q g.bit_bytes ∙ ap (λ n. bits / g.q * n) (sym parts) ∙ sym (mul_assoc (bits / g.q) (g.q * g.bit_bytes / g.sector) g.sector) in
    let ceil = (div_ceil_times bytes g.sector some).1 in
    let one_more : (k + 1) * g.sector ≡ k * g.sector + g.sector = omega arith in
    let less : div_ceil bytes g.sector < k + 1 = lt_of_mul-lt-mul_right g.sector {m = div_ceil bytes g.sector} {n = k + 1} (omega (arith, ceil, one_more, exact, room)) in
    let times : div_ceil bytes g.sector * g.sector ≤ k * g.sector = mul-le-mul_right {m = div_ceil bytes g.sector} {n = k} g.sector (omega (arith, less)) in
    let grown : bits * g.bit_bytes ≤ most * g.bit_bytes = mul-le-mul_right {m = bits} {n = most} g.bit_bytes fits in
    le-div (div_ceil bytes g.sector) (most * g.bit_bytes) g.sector some (omega (arith, times, exact, grown))

pub units_room : (g : Geometry) (bytes : ℕ) → 1 ≤ g.bit_bytes → 0 < bytes → bytes ≤ units g bytes * g.bit_bytes
units_room g bytes some more =
    let ceil = (div_ceil_times bytes g.bit_bytes some).0 in
    let at_least : div_ceil bytes g.bit_bytes ≤ max g.min (next_multiple_of (div_ceil bytes g.bit_bytes) g.q) = omega arith in
    let is : units g bytes ≡ max g.min (next_multiple_of (div_ceil bytes g.bit_bytes) g.q) =
    ap (λ (b : Bool). cond b 0 (max g.min (next_multiple_of (div_ceil bytes g.bit_bytes) g.q))) (ne_eqb bytes 0 (λ e. omega (arith, e, more))) in
    let grown : div_ceil bytes g.bit_bytes * g.bit_bytes ≤ units g bytes * g.bit_bytes = mul-le-mul_right {m = div_ceil bytes g.bit_bytes} {n = units g bytes} g.bit_bytes (omega (arith, at_least, is)) in
    omega (arith, ceil, grown)

-- ---- a plan on its map

module _ (m : Map) (is : IsNewMap m) (bytes : ℕ) (plan : Plan) (own : IsOwnPlan m bytes plan) where
  abbrev g : Geometry
  g = m.geometry

  abbrev parts : List ZoneRun
  parts = fronts plan.parts.items

  good : IsGeometry m.geometry
  good = subst IsGeometry is.of_record.1.1 (geometry_of_valid is.of_record.0 is.of_record.1.0)

  pub in_zones : All (IsInZone m.geometry) parts
  in_zones k d low =
      let front = own.plan.taken.fronts k d low in
      let hole = front.0 in
      let placed = (All-contains (IsPlaced m.geometry) (hole_runs m) hole (holes_placed m is) front.1).in_zone in
      let same = same_place hole (get_or parts k d) front.2.at_front in
      let within_hole = front.2.within in
      record {
        zone = subst (λ (z : ℕ). z < m.geometry.zones) same.0 placed.zone;
        from = subst (λ (z : ℕ). first_bit z ≤ (get_or parts k d).1.start) same.0 (subst (λ (s : ℕ). first_bit hole.0 ≤ s) same.1 placed.from);
        to = subst (λ (z : ℕ). (get_or parts k d).1.start + (get_or parts k d).1.len ≤ end_bit m.geometry z) same.0 (let to = placed.to in let start = same.1 in omega (arith, to, start, within_hole));
      }

  zone_low : (p : ZoneRun) → Contains parts p → p.0 < m.geometry.zones
  zone_low p at = (All-contains (IsInZone m.geometry) parts p in_zones at).zone

  as_same : (ps : List ZoneRun) → sectors_of m.geometry (as_runs plan.id ps) ≡ sectors_of m.geometry ps
  as_same [] = refl
  as_same (p ∷ ps) = ap (λ (xs : List ℕ). run_sectors m.geometry p ++ xs) (as_same ps)

  as_bits : (ps : List ZoneRun) → bits_in (as_runs plan.id ps) ≡ bits_in ps
  as_bits [] = refl
  as_bits (p ∷ ps) =
      sum_by-cons (λ (q : ZoneRun). q.1.len) (with_id plan.id p) (as_runs plan.id ps) ∙ ap (λ (n : ℕ). p.1.len + n) (as_bits ps) ∙ sym (sum_by-cons (λ (q : ZoneRun). q.1.len) p ps)

  as_even : (ps : List ZoneRun) → AllByRecursion (HasRunLength m.geometry) ps → AllByRecursion (λ (p : ZoneRun). p.1.len % m.geometry.q ≡ 0) (as_runs plan.id ps)
  as_even [] all = tt
  as_even (p ∷ ps) all = (all.0.1, as_even ps all.1)

  module _ (m' : Map) (taken : HasTaken m m' plan.id parts) where
    had_none : id_runs m plan.id ≡ []
    had_none = none_listed (id_runs m plan.id) (unused_none m plan.id is own.unused)

    runs_are : id_runs m' plan.id ≡ as_runs plan.id (parts_met m.geometry plan.id true parts ++ parts_met m.geometry plan.id false parts)
    runs_are =
        taken.own ∙ own_of_new m plan.id parts (unused_none m plan.id is own.unused) ∙ parts_in_turn m is parts own.can.cut own.can.rising plan.id
        ∙ ap (as_runs plan.id) (ordered m.geometry plan.id parts own.can.rising zone_low)

    gained : IsPermutation (as_runs plan.id parts) (id_runs m' plan.id)
    gained = IsPermutation-sym (id_runs m' plan.id) (as_runs plan.id parts) (subst (λ (rs : List ZoneRun). IsPermutation (id_runs m' plan.id) (rs ++ as_runs plan.id parts)) had_none taken.gained)

    bits_are : bits_in (id_runs m' plan.id) ≡ bits_in parts
    bits_are = sum_by-IsPermutation (λ (p : ZoneRun). p.1.len) (as_runs plan.id parts) (id_runs m' plan.id) gained ∙ as_bits parts

    even : AllByRecursion (λ (p : ZoneRun). p.1.len % m.geometry.q ≡ 0) (id_runs m' plan.id)
    even =
        recursion_from_All (λ (p : ZoneRun). p.1.len % m.geometry.q ≡ 0) (id_runs m' plan.id)
        (All-permutation (λ (p : ZoneRun). p.1.len % m.geometry.q ≡ 0) (as_runs plan.id parts) (id_runs m' plan.id) gained
        (All-from_recursion (λ (p : ZoneRun). p.1.len % m.geometry.q ≡ 0) (as_runs plan.id parts) (as_even parts (recursion_from_All (HasRunLength m.geometry) parts own.plan.long))))

    sectors_are : id_sectors m' plan.id ≡ sectors_of m.geometry (parts_met m.geometry plan.id true parts) ++ sectors_of m.geometry (parts_met m.geometry plan.id false parts)
    sectors_are =
        ap₂ (λ (h : Geometry) (rs : List ZoneRun). sectors_of h rs) taken.geometry runs_are ∙ as_same (parts_met m.geometry plan.id true parts ++ parts_met m.geometry plan.id false parts)
        ∙ sectors_append m.geometry (parts_met m.geometry plan.id true parts) (parts_met m.geometry plan.id false parts)

    long : div_ceil bytes m.geometry.sector ≤ length (id_sectors m' plan.id)
    long =
        let count : length (id_sectors m' plan.id) ≡ bits_in parts * m.geometry.bit_bytes / m.geometry.sector =
        ap (λ (h : Geometry). length (sectors_of h (id_runs m' plan.id))) taken.geometry ∙ long_runs m.geometry (id_runs m' plan.id) good.some good.whole even ∙ ap (λ (n : ℕ). n * m.geometry.bit_bytes / m.geometry.sector) bits_are in
        let enough = enough_sectors m.geometry bytes (units m.geometry bytes) (bits_in parts) good.some good.whole (units_whole m bytes is) (units_room m.geometry bytes (bit_positive m.geometry is.of_record) own.some) own.plan.taken.enough in
        omega (arith, count, enough)

    id_low : 3 ≤ plan.id
    id_low = (are_new_ids m).some plan.id own.is_new

    id_in_limit : plan.id < id_limit m.geometry
    id_in_limit =
        let low = id_low in
        let most = low_in_range 3 (id_limit m.geometry - 3) plan.id (from_filter (λ k. not (is_used m k)) (range_with_len 3 (id_limit m.geometry - 3)) plan.id own.is_new) in
        omega (arith, low, most)

    begins : (low : ℕ) → low < 2 → low_start m' low ≡ 0
    begins low small = ap (λ (n : ℕ). n * (m'.geometry.share / m'.geometry.sector)) (let e : low - 1 ≡ 0 = omega arith in e) ∙ omega arith

    -- where the address leads then
    pub leads : (low : ℕ) → low < 2 → sectors_at (Layout.New m') (256 * plan.id + low) bytes ≡ Some (take (div_ceil bytes m.geometry.sector) (id_sectors m' plan.id))
    unfolding sectors_at
    leads low small =
        let id_is : id_of (256 * plan.id + low) ≡ plan.id = omega (arith, small) in
        let low_is : low_of (256 * plan.id + low) ≡ low = omega (arith, small) in
        ap (λ (b : Bool). cond b (Some []) (new_sectors m' (256 * plan.id + low) bytes)) (ne_eqb bytes 0 (λ e. let some = own.some in omega (arith, e, some)))
        ∙ ap₂ (λ (i l : ℕ). cond (is_object_id m' i) (first_part (div_ceil bytes m'.geometry.sector) (drop (low_start m' l) (id_sectors m' i))) None) id_is low_is
        ∙ ap (λ (b : Bool). cond b (first_part (div_ceil bytes m'.geometry.sector) (drop (low_start m' low) (id_sectors m' plan.id))) None)
        (ap (λ (h : Geometry). nat_le 2 plan.id && nat_lt plan.id (id_limit h)) taken.geometry
        ∙ ap₂ (λ (a b : Bool). a && b) (le-leb 2 plan.id (let high = id_low in omega (arith, high))) (lt-ltb plan.id (id_limit m.geometry) id_in_limit))
        ∙ ap₂ (λ (h : Geometry) (n : ℕ). first_part (div_ceil bytes h.sector) (drop n (id_sectors m' plan.id))) taken.geometry (begins low small)
        ∙ ap (λ (b : Bool). cond b (Some (take (div_ceil bytes m.geometry.sector) (id_sectors m' plan.id))) None) (le-leb (div_ceil bytes m.geometry.sector) (length (id_sectors m' plan.id)) long)

  pub own_place : (need : ℕ) (sectors : List ℕ) → need ≡ div_ceil bytes m.geometry.sector
      → sectors ≡ take need (sectors_of m.geometry (parts_met m.geometry plan.id true parts)) ++ take (need - length (sectors_of m.geometry (parts_met m.geometry plan.id true parts))) (sectors_of m.geometry (parts_met m.geometry plan.id false parts))
      → IsOwnPlace m bytes plan sectors
  own_place need sectors need_is are m' low taken small =
      leads m' taken low small
      ∙ ap (λ (xs : List ℕ). let r : Option (List ℕ) = Some xs in r)
      (ap₂ (λ (n : ℕ) (xs : List ℕ). take n xs) (sym need_is) (sectors_are m' taken)
      ∙ take_append need (sectors_of m.geometry (parts_met m.geometry plan.id true parts)) (sectors_of m.geometry (parts_met m.geometry plan.id false parts)) ∙ sym are)

  pub parts_in_zones : All (λ (part : Part). IsInZone m.geometry (front_at part)) plan.parts.items
  parts_in_zones k d low =
      All-contains (IsInZone m.geometry) parts (front_at (get_or plan.parts.items k d)) in_zones (in_mapped front_at plan.parts.items (get_or plan.parts.items k d) (Contains-get_or plan.parts.items k d low))

-- ---- one extent

range_take : (n k a : ℕ) → take n (range_with_len a k) ≡ range_with_len a (min n k)
range_take zero k a = ap (range_with_len a) (let e : 0 ≡ min 0 k = omega arith in e)
range_take (suc n) zero a = ap (range_with_len a) (let e : 0 ≡ min (suc n) 0 = omega arith in e)
range_take (suc n) (suc k) a =
    ap (take (suc n)) (range_cons a k) ∙ ap (λ (xs : List ℕ). a ∷ xs) (range_take n k (a + 1)) ∙ sym (range_cons a (min n k)) ∙ ap (range_with_len a) (let e : suc (min n k) ≡ min (suc n) (suc k) = omega arith in e)
  where
    range_cons : (b i : ℕ) → range_with_len b (suc i) ≡ b ∷ range_with_len (b + 1) i
    range_cons b zero = refl
    range_cons b (suc i) = refl

pub one_pushed : (old now : List Extent) (first count need sectors : ℕ) → now ≡ old ++ record { first = first; sectors = sectors } ∷ [] → sectors ≡ min need count
    → sectors_in now ≡ sectors_in old ++ take need (range_with_len first count)
one_pushed old now first count need sectors pushed few =
    ap sectors_in pushed ∙ flat_map-append extent_sectors old (record { first = first; sectors = sectors } ∷ [])
    ∙ ap (λ (xs : List ℕ). sectors_in old ++ xs) (append-nil (range_with_len first sectors) ∙ ap (range_with_len first) few ∙ sym (range_take need count first))

pub left_is : (g : Geometry) (p : ZoneRun) (extent : Extent) (met : Bool) (need left : ℕ) → extent ≡ extent_of g p → met ≡ true → left ≡ need - extent.sectors → left ≡ need - length (sectors_if g met p)
left_is g p extent met need left e is l =
    l ∙ ap (λ (x : Extent). need - x.sectors) e ∙ sym (ap (λ (b : Bool). need - length (sectors_if g b p)) is ∙ ap (λ (n : ℕ). need - n) (length-range_with_len (first_sector g p) (sector_count g p)))
