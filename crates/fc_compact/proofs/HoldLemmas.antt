-- Holes and an identifier's runs, where they stand and how long they are.
use Rattle.std.proofs.Common.{◌≡◌, ◌<◌, ◌≤◌, ℕ, zero, suc, ◌+◌, ◌%◌, ◌^◌, Bool, true, false, cond, List, [], ◌∷◌, ◌++◌, length, refl, sym, ap, subst, ◌∙◌, arith}
use Rattle.std.specs.Prelude.{◌==◌, ◌||◌, ◌&&◌, nat_le, filter, Contains}
use Rattle.std.specs.List.{list_any, range_with_len}
use Rattle.std.proofs.Math.Nat.{zero-mod}
use Rattle.std.proofs.lemmas.Bool.{eq-eqb, eqb-true, leb-true}
use Rattle.std.proofs.lemmas.List.Sums.{sum_by-cons}
use Rattle.fc_zone.specs.declared.Run.{Run}
use Rattle.fc_zone.specs.declared.RunKind.{RunKind}
use Rattle.fc_zone.specs.declared.RunKind.TheVariants as kinds
use Rattle.fc_zone.specs.Zone.{IsShapeOf}
use Rattle.fc_zone.proofs.CutLemmas.{id_below}
use Rattle.fc_zone.proofs.HolderLemmas.{run_ext, run_spelled}
use Rattle.fc_zone.proofs.UniqueLemmas.{same_cut}
use Rattle.fc_newmap.specs.Map.{Map, ZoneRun, all_runs, bits_in, has_id, hole_runs, id_runs, is_hole, runs_in, runs_of, search_order, sector_of, shape, zone_numbers}
use Rattle.fc_newmap.specs.NewMap.{IsNewMap}
use Rattle.fc_newmap.specs.RunsLaw.{placed}
use Rattle.fc_newmap.proofs.ComposeLemmas.{zone_cut}
use Rattle.fc_newmap.proofs.HeldLemmas.{end_within, geometry_facts, sector_high, shape_fits}
use Rattle.fc_newmap.proofs.NextLemmas.{split_at, zone_of_run, placed_in}
use Rattle.fc_newmap.proofs.PlaceLemmas.{filter_in, in_id_runs, in_range, in_zone, range_in, zone_in}
use Rattle.fc_alloc.specs.declared.owner.Owner.{Owner}
use Rattle.fc_alloc.specs.Owners.{is_id_owned}
use Rattle.fc_image.specs.effects.Settled.{zones_with}
use Rattle.fc_compact.specs.Joins.{HasBetween, has_run_in}
use Rattle.fc_compact.specs.Ready.{is_movable_by}
use Rattle.fc_compact.specs.Slides.{HasRuns, hole_at}
use Rattle.fc_compact.proofs.FoundLemmas.{any_there, or_true}
use Rattle.fc_compact.proofs.WholeLemmas.{run_room, run_whole, whole_more}

pub movable_high : (owners : List Owner) (id : ℕ) → is_movable_by owners id ≡ true → 3 ≤ id
movable_high owners id may = leb-true 3 id (right (is_id_owned owners id) (nat_le 3 id) may)
  where
    right : (a b : Bool) → (a && b) ≡ true → b ≡ true
    right true b e = e
    right false b e = absurd (cc)

pub hole_kind : (k : RunKind) → is_hole k ≡ true → k ≡ kinds.Hole
hole_kind kinds.Hole e = refl
hole_kind (kinds.Id id) e = absurd (cc)

pub id_kind : (id : ℕ) (k : RunKind) → has_id id k ≡ true → k ≡ kinds.Id id
id_kind id kinds.Hole e = absurd (cc)
id_kind id (kinds.Id other) e = ap kinds.Id (eqb-true other id e)

-- a run stands between others
pub run_between : (m : Map) (zones : List ℕ) (p : ZoneRun) → Contains (runs_in m zones) p → HasBetween m p.0 p.1
run_between m zones p c = let i = zone_in m zones p c in let s = split_at (runs_of m p.0) p.1 (placed_in p.0 (runs_of m p.0) p i.1) in (s.0, s.1, s.2)

-- a list with an element has a first one
pub some_first : (xs : List ZoneRun) → 0 < length xs → (p : ZoneRun) × (ps : List ZoneRun) × (xs ≡ p ∷ ps)
some_first [] some = absurd (omega arith)
some_first (p ∷ ps) some = (p, ps, refl)

-- A zone has this hole between others.
pub record IsHole (m : Map) (z : ℕ) (hole : Run) : Type 0 where
  pub low : z < m.geometry.zones
  pub between : HasBetween m z hole
  pub short : hole.start + hole.len ≤ 8192
  pub whole : hole.len % m.geometry.q ≡ 0

module _ (m : Map) (is : IsNewMap m) where
  some : 1 ≤ m.geometry.zones
  some = (geometry_facts m.geometry is.of_record).zones

  module _ (z : ℕ) (hole : Run) (there : Contains (hole_runs m) (z, hole)) where
    found : Contains (all_runs m) (z, hole) × (is_hole hole.kind ≡ true)
    found = filter_in (λ (q : ZoneRun). is_hole q.1.kind) (all_runs m) (z, hole) there

    pub hole_low : z < m.geometry.zones
    hole_low = let r = range_in 0 m.geometry.zones z (zone_in m (zone_numbers m.geometry) (z, hole) found.0).0 in omega (arith, r.1)

    pub hole_kind_is : hole.kind ≡ kinds.Hole
    hole_kind_is = hole_kind hole.kind found.1

    pub hole_between : HasBetween m z hole
    hole_between = run_between m (zone_numbers m.geometry) (z, hole) found.0

    pub hole_named : (start : ℕ) → hole.start ≡ start → hole ≡ hole_at start hole.len
    hole_named start named = run_ext hole (hole_at start hole.len) named refl hole_kind_is

  module _ (z : ℕ) (low : z < m.geometry.zones) (front rest : List Run) (run : Run) (runs : HasRuns m z (front ++ run ∷ rest)) where
    fits : IsShapeOf (sector_of m z) (shape m.geometry z)
    fits = shape_fits m.geometry z (sector_of m z) is.of_record low (is.whole z low)

    pub run_short : run.start + run.len ≤ 8192
    run_short =
        let cut = run_spelled (shape m.geometry z) (sector_of m z) front rest run (zone_cut m z (front ++ run ∷ rest) is low runs) in
        let within = cut.1.1.within in
        omega (arith, within, end_within m.geometry z is.of_record low, sector_high m.geometry (geometry_facts m.geometry is.of_record))

    pub run_is_whole : run.len % m.geometry.q ≡ 0
    run_is_whole = run_whole (shape m.geometry z) (sector_of m z) front rest run (zone_cut m z (front ++ run ∷ rest) is low runs) fits

    pub run_is_long : m.geometry.min ≤ run.len
    run_is_long = run_room (shape m.geometry z) (sector_of m z) front rest run (zone_cut m z (front ++ run ∷ rest) is low runs) fits

    pub some_min : 0 < m.geometry.min
    some_min = let l = fits.least_room in omega arith

    pub some_q : 0 < m.geometry.q
    some_q = fits.step

    pub id_low : (id : ℕ) → run.kind ≡ kinds.Id id → id < 2 ^ m.geometry.idlen
    id_low id kind = id_below (shape m.geometry z) (sector_of m z) front rest run id (zone_cut m z (front ++ run ∷ rest) is low runs) kind

  -- the zone has one run there
  pub hole_is : (z : ℕ) (hole : Run) → Contains (hole_runs m) (z, hole) → IsHole m z hole
  hole_is z hole there =
      let low = hole_low z hole there in
      let between = hole_between z hole there in
      record { low = low; between = between; short = run_short z low between.0 between.1 hole between.2; whole = run_is_whole z low between.0 between.1 hole between.2 }

  pub same_run : (z : ℕ) → z < m.geometry.zones → (a b : Run) → HasBetween m z a → HasBetween m z b → a.start ≡ b.start → a ≡ b
  same_run z low a b one two e =
      (same_cut (shape m.geometry z) (sector_of m z) one.0 two.0 one.1 two.1 a b (zone_cut m z (one.0 ++ a ∷ one.1) is low one.2) (zone_cut m z (two.0 ++ b ∷ two.1) is low two.2) e).1

  -- ---- an identifier's runs

  module _ (id : ℕ) where
    pub id_run_low : (p : ZoneRun) → Contains (id_runs m id) p → p.0 < m.geometry.zones
    id_run_low p c = zone_of_run m id p some c

    pub id_run_kind : (p : ZoneRun) → Contains (id_runs m id) p → p.1.kind ≡ kinds.Id id
    id_run_kind p c = id_kind id p.1.kind (filter_in (λ (q : ZoneRun). has_id id q.1.kind) (runs_in m (search_order m.geometry id)) p c).1

    pub id_run_between : (p : ZoneRun) → Contains (id_runs m id) p → HasBetween m p.0 p.1
    id_run_between p c = run_between m (search_order m.geometry id) p (filter_in (λ (q : ZoneRun). has_id id q.1.kind) (runs_in m (search_order m.geometry id)) p c).0

    bits_whole : (ps : List ZoneRun) → ((p : ZoneRun) → Contains ps p → p.1.len % m.geometry.q ≡ 0) → 0 < m.geometry.q → bits_in ps % m.geometry.q ≡ 0
    bits_whole [] each step = zero-mod m.geometry.q
    bits_whole (p ∷ ps) each step =
        ap (λ n. n % m.geometry.q) (sum_by-cons (λ (q : ZoneRun). q.1.len) p ps)
        ∙ whole_more p.1.len (bits_in ps) m.geometry.q step (each p (0, omega arith, refl)) (bits_whole ps (λ q c. each q (suc c.0, (let l = c.1 in omega arith), c.2)) step)

    module _ (p : ZoneRun) (ps : List ZoneRun) (runs : id_runs m id ≡ p ∷ ps) where
      first_in : Contains (id_runs m id) p
      first_in = subst (λ (l : List ZoneRun). Contains l p) (sym runs) (0, omega arith, refl)

      between : HasBetween m p.0 p.1
      between = id_run_between p first_in

      pub id_bits_whole : bits_in (id_runs m id) % m.geometry.q ≡ 0
      id_bits_whole =
          bits_whole (id_runs m id) (λ q c. let b = id_run_between q c in run_is_whole q.0 (id_run_low q c) b.0 b.1 q.1 b.2)
          (some_q p.0 (id_run_low p first_in) between.0 between.1 p.1 between.2)

      pub id_bits_long : m.geometry.min ≤ bits_in (id_runs m id)
      id_bits_long =
          let long = run_is_long p.0 (id_run_low p first_in) between.0 between.1 p.1 between.2 in
          let sum = sum_by-cons (λ (q : ZoneRun). q.1.len) p ps in
          omega (arith, long, sum, ap bits_in runs)

      pub id_fits_field : id < 2 ^ m.geometry.idlen
      id_fits_field = id_low p.0 (id_run_low p first_in) between.0 between.1 p.1 between.2 id (id_run_kind p first_in)

    -- ---- the zones that have some

    any_found : (f : Run → Bool) (xs : List Run) → list_any f xs ≡ true → (x : Run) × (Contains xs x × (f x ≡ true))
    any_found f [] e = absurd (cc)
    any_found f (x ∷ xs) e = by (f x) refl e (λ more. any_found f xs more)
      where
        by : (b : Bool) → f x ≡ b → (b || list_any f xs) ≡ true → (list_any f xs ≡ true → (y : Run) × (Contains xs y × (f y ≡ true))) → (y : Run) × (Contains (x ∷ xs) y × (f y ≡ true))
        by true g h more = (x, ((0, omega arith, refl), g))
        by false g h more = let r = more h in (r.0, ((suc r.1.0.0, (let l = r.1.0.1 in omega arith), r.1.0.2), r.1.1))

    any_place : (y : ℕ) (xs : List ZoneRun) → list_any (λ (p : ZoneRun). p.0 == y) xs ≡ true → (p : ZoneRun) × (Contains xs p × (p.0 ≡ y))
    any_place y [] e = absurd (cc)
    any_place y (x ∷ xs) e = by (x.0 == y) refl e (λ more. any_place y xs more)
      where
        by : (b : Bool) → (x.0 == y) ≡ b → (b || list_any (λ (p : ZoneRun). p.0 == y) xs) ≡ true → (list_any (λ (p : ZoneRun). p.0 == y) xs ≡ true → (p : ZoneRun) × (Contains xs p × (p.0 ≡ y))) → (p : ZoneRun) × (Contains (x ∷ xs) p × (p.0 ≡ y))
        by true g h more = (x, ((0, omega arith, refl), eqb-true x.0 y g))
        by false g h more = let r = more h in (r.0, ((suc r.1.0.0, (let l = r.1.0.1 in omega arith), r.1.0.2), r.1.1))

    place_there : (y : ℕ) (xs : List ZoneRun) (p : ZoneRun) → Contains xs p → p.0 ≡ y → list_any (λ (q : ZoneRun). q.0 == y) xs ≡ true
    place_there y [] p (k, h, e) same = absurd (omega arith)
    place_there y (x ∷ xs) p (zero, h, e) same = ap (λ b. b || list_any (λ (q : ZoneRun). q.0 == y) xs) (eq-eqb x.0 y (ap (λ (q : ZoneRun). q.0) e ∙ same))
    place_there y (x ∷ xs) p (suc k, h, e) same =
        ap (λ b. (x.0 == y) || b) (place_there y xs p (k, omega arith, e) same) ∙ or_true (x.0 == y)

    placed_there : (y : ℕ) (runs : List Run) (run : Run) → Contains runs run → Contains (placed y runs) (y, run)
    placed_there y [] run (k, h, e) = absurd (omega arith)
    placed_there y (x ∷ runs) run (zero, h, e) = (0, omega arith, ap (λ (r : Run). let q : ZoneRun = (y, r) in q) e)
    placed_there y (x ∷ runs) run (suc k, h, e) = let r = placed_there y runs run (k, omega arith, e) in (suc r.0, (let l = r.1 in omega arith), r.2)

    pub has_run_same : (y : ℕ) → y < m.geometry.zones → has_run_in m id y ≡ list_any (λ (p : ZoneRun). p.0 == y) (id_runs m id)
    has_run_same y low = by (has_run_in m id y) (list_any (λ (p : ZoneRun). p.0 == y) (id_runs m id)) refl refl
      where
        into : has_run_in m id y ≡ true → list_any (λ (p : ZoneRun). p.0 == y) (id_runs m id) ≡ true
        into e =
            let r = any_found (λ (run : Run). has_id id run.kind) (runs_of m y) e in
            let there = in_zone m (zone_numbers m.geometry) (y, r.0) (in_range 0 m.geometry.zones y (omega arith) (omega (arith, low))) (placed_there y (runs_of m y) r.0 r.1.0) in
            place_there y (id_runs m id) (y, r.0) (in_id_runs m id (y, r.0) some there r.1.1) refl

        back : list_any (λ (p : ZoneRun). p.0 == y) (id_runs m id) ≡ true → has_run_in m id y ≡ true
        back e =
            let p = any_place y (id_runs m id) e in
            let b = id_run_between p.0 p.1.0 in
            let kind = id_run_kind p.0 p.1.0 in
            ap (λ (x : ℕ). has_run_in m id x) (sym p.1.1) ∙ ap (list_any (λ (run : Run). has_id id run.kind)) b.2
            ∙ any_there (λ (run : Run). has_id id run.kind) b.0 b.1 p.0.1 (ap (has_id id) kind ∙ eq-eqb id id refl)

        by : (a b : Bool) → has_run_in m id y ≡ a → list_any (λ (p : ZoneRun). p.0 == y) (id_runs m id) ≡ b → has_run_in m id y ≡ list_any (λ (p : ZoneRun). p.0 == y) (id_runs m id)
        by true b f g = f ∙ sym (into f)
        by false true f g = absurd (let t = back g in cc)
        by false false f g = f ∙ sym g

-- ---- the zones of an identifier

pub same_filter : (t u : ℕ → Bool) (from n : ℕ) → ((y : ℕ) → from ≤ y → y < from + n → t y ≡ u y) → filter t (range_with_len from n) ≡ filter u (range_with_len from n)
same_filter t u from zero same = refl
same_filter t u from (suc n) same =
    ap (λ b. cond b (from ∷ filter t (range_with_len (from + 1) n)) (filter t (range_with_len (from + 1) n))) (same from (omega arith) (omega arith))
    ∙ ap (λ (xs : List ℕ). cond (u from) (from ∷ xs) xs) (same_filter t u (from + 1) n (λ y low high. same y (omega arith) (omega arith)))

pub zones_same : (m : Map) → IsNewMap m → (id : ℕ) → zones_with m id ≡ filter (has_run_in m id) (zone_numbers m.geometry)
zones_same m is id = same_filter (λ z. list_any (λ (p : ZoneRun). p.0 == z) (id_runs m id)) (has_run_in m id) 0 m.geometry.zones (λ y low high. sym (has_run_same m is id y (omega (arith, high))))
