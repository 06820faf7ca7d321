-- A piece of a run moves into the front of the hole before it.
use Rattle.std.proofs.Common.{◌≡◌, ◌<◌, ◌≤◌, inl, inr, ℕ, ◌+◌, ◌-◌, ◌*◌, ◌/◌, ◌%◌, ◌^◌, Bool, true, false, cond, List, [], ◌∷◌, ◌++◌, length, refl, sym, ap, ap₂, subst, ◌∙◌, arith, append_assoc}
use Rattle.std.specs.Prelude.{◌==◌, filter, Contains}
use Rattle.std.specs.List.{range_with_len}
use Rattle.std.proofs.Math.Nat.{zero-div, div-le_self}
use Rattle.std.proofs.lemmas.Bool.{eq-eqb, ne_eqb, eqb-true, cases_lt}
use Rattle.std.proofs.lemmas.List.{map-append}
use Rattle.std.proofs.lemmas.List.Elements.{filter-append, Contains-append_right}
use Rattle.std.proofs.lemmas.Grind.{flat_map-append}
use Rattle.fc_bytes.specs.Bits.{bits}
use Rattle.fc_record.specs.declared.Geometry.{Geometry}
use Rattle.fc_record.specs.Record.{base, first_bit, end_bit}
use Rattle.fc_zone.specs.declared.Run.{Run}
use Rattle.fc_zone.specs.Zone.{Spells, Zone}
use Rattle.fc_zone.proofs.HolderLemmas.{run_spelled}
use Rattle.fc_zone.proofs.ZoneLemmas.{Spells-le, Contains-head as contains_here}
use Rattle.fc_zone.proofs.CutLemmas.{id_below}
use Rattle.fc_newmap.specs.Map.{Map, ZoneRun, all_runs, has_id, hole_runs, is_hole, run_sectors, runs_of, sector_of, sectors_of, shape, zone_numbers}
use Rattle.fc_newmap.specs.NewMap.{IsNewMap}
use Rattle.fc_newmap.specs.RunsLaw.{IsGeometry, placed}
use Rattle.fc_newmap.specs.Walk.{IsInZone}
use Rattle.fc_newmap.proofs.CoverLemmas.{range_cut}
use Rattle.fc_newmap.proofs.ExtentLemmas.{bits_on_disc}
use Rattle.fc_newmap.proofs.ComposeLemmas.{zone_cut}
use Rattle.fc_newmap.proofs.HeldLemmas.{geometry_facts}
use Rattle.fc_newmap.proofs.PlaceLemmas.{held_in, in_filter, in_range, in_zone}
use Rattle.fc_newmap.proofs.RunsLemmas.{place_sector, sectors_add}
use Rattle.fc_image.specs.Layout.{Layout, disc_sectors, hole_sectors, is_among}
use Rattle.fc_image.specs.Moves.{Carried}
use Rattle.fc_compact.specs.Laws.{Laws}
use Rattle.fc_compact.specs.Slides.{HasRuns, hole_at, part, row, run_at}
use Rattle.fc_compact.proofs.PreservesLemmas.{geometry_is}
use Rattle.fc_compact.proofs.ShiftLemmas.{front_with, part_some}

-- ---- rows of sectors

module _ (g : Geometry) (is : IsGeometry g) where
  -- so many bits as sectors
  abbrev pub count : ℕ → ℕ
  count n = n * g.bit_bytes / g.sector

  pub count_more : (a b : ℕ) → a % g.q ≡ 0 → count (a + b) ≡ count a + count b
  count_more a b whole = sectors_add g.q g.bit_bytes g.sector a b is.some is.whole whole

  pub count_le : (a b : ℕ) → a % g.q ≡ 0 → a ≤ b → count a ≤ count b
  count_le a b whole le = let e : b ≡ a + (b - a) = omega arith in omega (arith, ap count e, count_more a (b - a) whole)

  pub count_none : count 0 ≡ 0
  count_none = ap (λ (k : ℕ). k / g.sector) (let e : 0 * g.bit_bytes ≡ 0 = omega arith in e) ∙ zero-div g.sector

  module _ (z : ℕ) where
    abbrev pub on : ℕ → Type 0
    on at = (base g z + (at - first_bit z)) % g.q ≡ 0

    -- the sectors of so many bits from a place
    abbrev pub stretch : ℕ → ℕ → List ℕ
    stretch at len = range_with_len (place_sector g z at) (count len)

    pub place_more : (at n : ℕ) → first_bit z ≤ at → on at → place_sector g z (at + n) ≡ place_sector g z at + count n
    place_more at n low here =
        ap (λ (x : ℕ). x * g.bit_bytes / g.sector) (let e : base g z + (at + n - first_bit z) ≡ base g z + (at - first_bit z) + n = omega arith in e)
        ∙ sectors_add g.q g.bit_bytes g.sector (base g z + (at - first_bit z)) n is.some is.whole here

    pub stretch_more : (at a b : ℕ) → first_bit z ≤ at → on at → a % g.q ≡ 0 → stretch at (a + b) ≡ stretch at a ++ stretch (at + a) b
    stretch_more at a b low here whole =
        ap (range_with_len (place_sector g z at)) (count_more a b whole)
        ∙ range_cut (place_sector g z at) (count a) (count b)
        ∙ ap (λ (k : ℕ). stretch at a ++ range_with_len k (count b)) (sym (place_more at a low here))

    pub stretch_none : (at : ℕ) → stretch at 0 ≡ []
    stretch_none at = ap (range_with_len (place_sector g z at)) count_none

    -- ---- the sectors of an identifier in a list of runs

    abbrev pub ids : ℕ → List Run → List ZoneRun
    ids k runs = filter (λ p. has_id k p.1.kind) (placed z runs)

    pub ids_append : (k : ℕ) (xs ys : List Run) → ids k (xs ++ ys) ≡ ids k xs ++ ids k ys
    ids_append k xs ys =
        ap (filter (λ (p : ZoneRun). has_id k p.1.kind)) (map-append (λ (run : Run). let p : ZoneRun = (z, run) in p) xs ys)
        ∙ filter-append (λ (p : ZoneRun). has_id k p.1.kind) (placed z xs) (placed z ys)

    ids_part_other : (k start len id : ℕ) (rest : List Run) → (k ≡ id → ⊥) → ids k (part start len id rest) ≡ ids k rest
    ids_part_other k start len id rest other = by (len == 0)
      where
        by : (b : Bool) → ids k (cond b rest (run_at start len id ∷ rest)) ≡ ids k rest
        by true = refl
        by false = ap (λ (b : Bool). cond b ((z, run_at start len id) ∷ ids k rest) (ids k rest)) (ne_eqb id k (λ e. other (sym e)))

    -- other identifiers' runs don't depend on how far the row is
    pub ids_row_other : (k start id d s r : ℕ) (front rest : List Run) → (k ≡ id → ⊥) → ids k (front ++ row start id d s r rest) ≡ ids k (front ++ rest)
    ids_row_other k start id d s r front rest other =
        ids_append k front (row start id d s r rest)
        ∙ ap (λ (ps : List ZoneRun). ids k front ++ ps)
        (ids_part_other k start d id (hole_at (start + d) s ∷ part (start + d + s) r id rest) other ∙ ids_part_other k (start + d + s) r id rest other)
        ∙ sym (ids_append k front rest)

    abbrev pub taken : ℕ → List Run → List ℕ
    taken k runs = sectors_of g (ids k runs)

    taken_append : (k : ℕ) (xs ys : List Run) → taken k (xs ++ ys) ≡ taken k xs ++ taken k ys
    taken_append k xs ys = ap (sectors_of g) (ids_append k xs ys) ∙ flat_map-append (run_sectors g) (ids k xs) (ids k ys)

    taken_part : (start len id : ℕ) (rest : List Run) → taken id (part start len id rest) ≡ stretch start len ++ taken id rest
    taken_part start len id rest = by (len == 0) refl
      where
        by : (b : Bool) → (len == 0) ≡ b → taken id (cond b rest (run_at start len id ∷ rest)) ≡ stretch start len ++ taken id rest
        by true e = ap (λ (xs : List ℕ). xs ++ taken id rest) (sym (ap (stretch start) (eqb-true len 0 e) ∙ stretch_none start))
        by false e = ap (λ (b : Bool). sectors_of g (cond b ((z, run_at start len id) ∷ ids id rest) (ids id rest))) (eq-eqb id id refl)

    pub taken_row : (start id d s r : ℕ) (front rest : List Run)
        → taken id (front ++ row start id d s r rest) ≡ taken id front ++ (stretch start d ++ (stretch (start + d + s) r ++ taken id rest))
    taken_row start id d s r front rest =
        taken_append id front (row start id d s r rest)
        ∙ ap (λ (xs : List ℕ). taken id front ++ xs)
        (taken_part start d id (hole_at (start + d) s ∷ part (start + d + s) r id rest)
        ∙ ap (λ (xs : List ℕ). stretch start d ++ xs) (taken_part (start + d + s) r id rest))

    -- what moves, between what doesn't
    module _ (start id d s n r' : ℕ) (front rest : List Run) where
      abbrev pub kept_front : List ℕ
      kept_front = taken id front ++ stretch start d

      abbrev pub kept_back : List ℕ
      kept_back = stretch (start + d + s + n) r' ++ taken id rest

      pub row_before : first_bit z ≤ start + d + s → on (start + d + s) → n % g.q ≡ 0
          → taken id (front ++ row start id d s (n + r') rest) ≡ kept_front ++ (stretch (start + d + s) n ++ kept_back)
      row_before low here whole =
          taken_row start id d s (n + r') front rest
          ∙ ap (λ (xs : List ℕ). taken id front ++ (stretch start d ++ (xs ++ taken id rest))) (stretch_more (start + d + s) n r' low here whole)
          ∙ sym (append_assoc (taken id front) (stretch start d) ((stretch (start + d + s) n ++ stretch (start + d + s + n) r') ++ taken id rest))
          ∙ ap (λ (xs : List ℕ). kept_front ++ xs) (append_assoc (stretch (start + d + s) n) (stretch (start + d + s + n) r') (taken id rest))

      pub row_after : stretch start (d + n) ≡ stretch start d ++ stretch (start + d) n
          → taken id (front ++ row start id (d + n) s r' rest) ≡ kept_front ++ (stretch (start + d) n ++ kept_back)
      row_after grown =
          taken_row start id (d + n) s r' front rest
          ∙ ap₂ (λ (xs : List ℕ) (at : ℕ). taken id front ++ (xs ++ (stretch at r' ++ taken id rest))) grown (let e : start + (d + n) + s ≡ start + d + s + n = omega arith in e)
          ∙ ap (λ (xs : List ℕ). taken id front ++ xs) (append_assoc (stretch start d) (stretch (start + d) n) kept_back)
          ∙ sym (append_assoc (taken id front) (stretch start d) (stretch (start + d) n ++ kept_back))

-- one part moves, and what lies before it and after it stays
pub carried_between : (law : Laws) (size : ℕ) (image holes front moved moved' back : List ℕ) → Carried size image image holes moved moved' → length moved ≡ length moved'
    → Carried size image image holes (front ++ (moved ++ back)) (front ++ (moved' ++ back))
carried_between law size image holes front moved moved' back c len =
    law.pieces.both size image image holes front front (moved ++ back) (moved' ++ back) (law.pieces.stay size image image holes front (λ s i. refl)) refl
    (law.pieces.both size image image holes moved moved' back back c len (law.pieces.stay size image image holes back (λ s i. refl)))

pub around : (outer front moved back rest : List ℕ) → outer ++ ((front ++ (moved ++ back)) ++ rest) ≡ (outer ++ front) ++ (moved ++ (back ++ rest))
around outer front moved back rest =
    ap (λ (xs : List ℕ). outer ++ xs) (append_assoc front (moved ++ back) rest ∙ ap (λ (xs : List ℕ). front ++ xs) (append_assoc moved back rest))
    ∙ sym (append_assoc outer front (moved ++ (back ++ rest)))

-- ---- a row in a zone

module _ (m : Map) (is : IsNewMap m) (z : ℕ) (low : z < m.geometry.zones) (start id d s r : ℕ) (front rest : List Run) (zone : HasRuns m z (front ++ row start id d s r rest)) (some : 0 < r) where
  abbrev g : Geometry
  g = m.geometry

  abbrev geo : IsGeometry g
  geo = geometry_is m is

  abbrev lead : List Run
  lead = front ++ part start d id []

  abbrev tail : List Run
  tail = run_at (start + d + s) r id ∷ rest

  pub by_runs : HasRuns m z (lead ++ hole_at (start + d) s ∷ tail)
  by_runs =
      zone ∙ ap (λ (rs : List Run). front ++ part start d id (hole_at (start + d) s ∷ rs)) (part_some (start + d + s) r id rest some)
      ∙ front_with front start d id (hole_at (start + d) s ∷ tail)

  by_hole : Zone (shape g z) (sector_of m z) (lead ++ hole_at (start + d) s ∷ tail)
  by_hole = zone_cut m z (lead ++ hole_at (start + d) s ∷ tail) is low by_runs

  spelled : Spells (shape g z) (bits (sector_of m z)) (shape g z).first lead (start + d) × Spells (shape g z) (bits (sector_of m z)) (start + d) (hole_at (start + d) s ∷ tail) (shape g z).end
  spelled = run_spelled (shape g z) (sector_of m z) lead tail (hole_at (start + d) s) by_hole

  pub hole_low : first_bit z ≤ start + d
  hole_low = Spells-le (shape g z) (bits (sector_of m z)) lead (shape g z).first (start + d) spelled.0

  pub hole_on : on g geo z (start + d)
  hole_on = spelled.1.1.begins

  pub run_on : on g geo z (start + d + s)
  run_on = spelled.1.1.ends

  pub run_ends : start + d + s + r ≤ end_bit g z
  run_ends = spelled.1.3.1.within

  -- where some of the run has slid, its start is on a sector
  pub start_on : 0 < d → (first_bit z ≤ start) × on g geo z start
  start_on moved =
      let by_part : Zone (shape g z) (sector_of m z) (front ++ run_at start d id ∷ (hole_at (start + d) s ∷ part (start + d + s) r id rest)) =
      zone_cut m z (front ++ run_at start d id ∷ (hole_at (start + d) s ∷ part (start + d + s) r id rest)) is low
      (zone ∙ ap (λ (rs : List Run). front ++ rs) (part_some start d id (hole_at (start + d) s ∷ part (start + d + s) r id rest) moved)) in
      let cut = run_spelled (shape g z) (sector_of m z) front (hole_at (start + d) s ∷ part (start + d + s) r id rest) (run_at start d id) by_part in
      (Spells-le (shape g z) (bits (sector_of m z)) front (shape g z).first start cut.0, cut.1.1.begins)

  pub grown : (n : ℕ) → d % g.q ≡ 0 → stretch g geo z start (d + n) ≡ stretch g geo z start d ++ stretch g geo z (start + d) n
  grown n whole = elim (cases_lt 0 d) [
    | inl moved ↦ (let at = start_on moved in stretch_more g geo z start d n at.0 at.1 whole)
    | inr none ↦ (
        let e : d ≡ 0 = omega arith in
        ap (λ (k : ℕ). stretch g geo z start (k + n)) e
        ∙ ap (stretch g geo z start) (let f : 0 + n ≡ n = omega arith in f)
        ∙ ap (λ (k : ℕ). stretch g geo z k n) (let f : start ≡ start + d = omega arith in f)
        ∙ sym (ap (λ (xs : List ℕ). xs ++ stretch g geo z (start + d) n) (ap (stretch g geo z start) e ∙ stretch_none g geo z start)))
  ]

  -- the hole's place on the disc, and the run's
  pub from_is : place_sector g z (start + d + s) ≡ place_sector g z (start + d) + count g geo s
  from_is = place_more g geo z (start + d) s hole_low hole_on

  module _ (n : ℕ) (within : n ≤ r) (few : n ≤ s) (whole : n % g.q ≡ 0) where
    pub piece_apart : place_sector g z (start + d) + count g geo n ≤ place_sector g z (start + d + s)
    piece_apart = omega (arith, from_is, count_le g geo n s whole few)

    pub piece_in_zone : IsInZone g (z, run_at (start + d + s) n id)
    piece_in_zone = record { zone = low; from = omega (arith, hole_low); to = omega (arith, run_ends) }

    pub place_in_zone : IsInZone g (z, run_at (start + d) n id)
    place_in_zone = record { zone = low; from = hole_low; to = omega (arith, run_ends) }

    pub piece_on_disc : place_sector g z (start + d + s) + count g geo n ≤ disc_sectors (Layout.New m)
    piece_on_disc =
        let at = base g z + (start + d + s - first_bit z) in
        let disc : at + n ≤ g.disc_bits = bits_on_disc g (z, run_at (start + d + s) n id) is.of_record piece_in_zone in
        let e : g.disc_bits ≡ at + (g.disc_bits - at) = omega (arith, disc) in
        let all : g.disc_bits * g.bit_bytes / g.sector ≡ place_sector g z (start + d + s) + count g geo (g.disc_bits - at) =
        ap (count g geo) e ∙ sectors_add g.q g.bit_bytes g.sector at (g.disc_bits - at) geo.some geo.whole run_on in
        omega (arith, all, count_le g geo n (g.disc_bits - at) whole (omega (arith, disc)))

    pub disc_low : disc_sectors (Layout.New m) ≤ 2 ^ 40
    disc_low = let bytes = (geometry_facts g is.of_record).bytes in omega (arith, bytes, div-le_self (g.disc_bits * g.bit_bytes) g.sector)

    pub piece_in_hole : (i : ℕ) → i < count g geo n → is_among (hole_sectors (Layout.New m)) (place_sector g z (start + d) + i) ≡ true
    piece_in_hole i lt =
        let p : ZoneRun = (z, hole_at (start + d) s) in
        let there : Contains (placed z (runs_of m z)) p =
        subst (λ (rs : List Run). Contains (placed z rs) p) (sym by_runs)
        (subst (λ (ps : List ZoneRun). Contains ps p) (sym (map-append (λ (run : Run). let q : ZoneRun = (z, run) in q) lead (hole_at (start + d) s ∷ tail)))
        (Contains-append_right (placed z lead) (placed z (hole_at (start + d) s ∷ tail)) p (contains_here p (placed z tail)))) in
        held_in g (hole_runs m) p (place_sector g z (start + d) + i)
        (in_filter (λ q. is_hole q.1.kind) (all_runs m) p (in_zone m (zone_numbers g) p (in_range 0 g.zones z (omega arith) (omega (arith, low))) there) refl)
        (record { from = omega arith; to = omega (arith, lt, count_le g geo n s whole few) })

  -- the identifier is one that the zone's field can say
  pub id_fits : id < 2 ^ g.idlen
  id_fits = id_below (shape g z) (sector_of m z) (lead ++ hole_at (start + d) s ∷ []) rest (run_at (start + d + s) r id) id
      (subst (Zone (shape g z) (sector_of m z)) (sym (append_assoc lead (hole_at (start + d) s ∷ []) (run_at (start + d + s) r id ∷ rest))) by_hole) refl
