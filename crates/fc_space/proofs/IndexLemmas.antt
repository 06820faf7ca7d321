-- The rows of all runs, sorted by their identifiers.
use Rattle.std.proofs.Common.{◌≡◌, ◌<◌, ◌≤◌, ℕ, zero, suc, ◌+◌, ◌-◌, ◌==◌, Bool, true, false, cond, List, [], ◌∷◌, ◌++◌, length, map, take, drop, get_or, Option, Some, None, refl, sym, ap, ap₂, subst, ◌∙◌, arith, append-nil, append_assoc}
use Rattle.std.specs.Prelude.{◌&&◌, not, nat_le, nat_lt, filter, if◌then◌else◌}
use Rattle.std.specs.Prelude.{All, MatchOption}
use Rattle.std.specs.List.{AllWithin, range_with_len}
use Rattle.std.specs.List.Sorted.{IsPartitionPoint, IsStableByKey, ties}
use Rattle.std.specs.Ordering.{is_lt, nat_cmp}
use Rattle.std.proofs.lemmas.Bool.{eqb-true, le-leb, lt-leb}
use Rattle.std.proofs.lemmas.Bool.Decides.{nat_tests}
use Rattle.std.proofs.Math.Seq.{take-length}
use Rattle.std.proofs.lemmas.List.{get_or-drop, length-drop, map-append}
use Rattle.std.proofs.lemmas.List.Elements.{All-append, filter-append}
use Rattle.std.proofs.lemmas.Grind.{flat_map-append}
use Rattle.fc_device.specs.declared.disk.Extent.{Extent}
use Rattle.fc_record.specs.declared.Geometry.{Geometry}
use Rattle.fc_zone.specs.declared.Run.{Run}
use Rattle.fc_zone.specs.declared.RunKind.{RunKind}
use Rattle.fc_zone.specs.declared.RunKind.TheVariants as kinds
use Rattle.fc_newmap.specs.Map.{Map, ZoneRun, all_runs, extent_of, has_id, home_zone, id_runs, runs_in, runs_of}
use Rattle.fc_newmap.specs.RunsLaw.{placed}
use Rattle.fc_newmap.specs.Walk.{StandsBefore}
use Rattle.fc_newmap.specs.declared.walk.Walk.{Walk}
use Rattle.fc_newmap.proofs.PlaceLemmas.{home_low}
use Rattle.fc_space.specs.declared.index.IdRow.{IdRow}
use Rattle.fc_space.specs.Index.{IsLow, is_met, places_in, row_of, rows_of, rows_with}

-- The search for the identifier meets the run then.
meets : Geometry → Bool → ℕ → ZoneRun → Bool
meets g ahead id p = has_id id p.1.kind && is_met g ahead id p.0

-- ---- the rows of one identifier

one_row : (g : Geometry) (ahead : Bool) (id : ℕ) (p : ZoneRun) (kind : RunKind)
    → places_in (rows_of id (row_of g ahead p kind)) ≡ map (extent_of g) (cond (has_id id kind && is_met g ahead id p.0) (p ∷ []) [])
one_row g ahead id p kinds.Hole = refl
one_row g ahead id p (kinds.Id other) = by (other == id) refl
  where
    row : IdRow
    row = record { id = other; place = extent_of g p }

    kept : (b : Bool) → b ≡ true → places_in (cond b (row ∷ []) []) ≡ extent_of g p ∷ []
    kept true e = refl
    kept false e = absurd (cc)

    gone : (b : Bool) → b ≡ false → places_in (cond b (row ∷ []) []) ≡ []
    gone true e = absurd (cc)
    gone false e = refl

    met : (e : (other == id) ≡ true) (a b : Bool) → a ≡ b → places_in (rows_of id (if a then row ∷ [] else [])) ≡ map (extent_of g) (cond b (p ∷ []) [])
    met e true true same = kept (other == id) e
    met e false false same = refl
    met e true false same = absurd (cc)
    met e false true same = absurd (cc)

    dropped : (e : (other == id) ≡ false) (a : Bool) → places_in (rows_of id (if a then row ∷ [] else [])) ≡ []
    dropped e true = gone (other == id) e
    dropped e false = refl

    by : (b : Bool) → (other == id) ≡ b → places_in (rows_of id (if is_met g ahead other p.0 then row ∷ [] else [])) ≡ map (extent_of g) (cond (b && is_met g ahead id p.0) (p ∷ []) [])
    by true e = met e (is_met g ahead other p.0) (is_met g ahead id p.0) (ap (λ (n : ℕ). is_met g ahead n p.0) (eqb-true other id e))
    by false e = dropped e (is_met g ahead other p.0)

joined : (g : Geometry) (b : Bool) (p : ZoneRun) (rest : List ZoneRun)
    → map (extent_of g) (cond b (p ∷ []) []) ++ map (extent_of g) rest ≡ map (extent_of g) (cond b (p ∷ rest) rest)
joined g true p rest = refl
joined g false p rest = refl

rows_met : (g : Geometry) (ahead : Bool) (id : ℕ) (runs : List ZoneRun) → places_in (rows_of id (rows_with g ahead runs)) ≡ map (extent_of g) (filter (meets g ahead id) runs)
unfolding meets
rows_met g ahead id [] = refl
rows_met g ahead id (p ∷ runs) =
    let here = row_of g ahead p p.1.kind in
    let there = rows_with g ahead runs in
    ap places_in (filter-append (λ (r : IdRow). r.id == id) here there)
    ∙ map-append (λ (r : IdRow). r.place) (rows_of id here) (rows_of id there)
    ∙ ap₂ (λ (xs ys : List Extent). xs ++ ys) (one_row g ahead id p p.1.kind) (rows_met g ahead id runs)
    ∙ joined g (has_id id p.1.kind && is_met g ahead id p.0) p (filter (meets g ahead id) runs)

-- ---- zones

run_met : (g : Geometry) (ahead : Bool) (id z : ℕ) (runs : List Run) → is_met g ahead id z ≡ true
    → filter (meets g ahead id) (placed z runs) ≡ filter (λ p. has_id id p.1.kind) (placed z runs)
unfolding meets
run_met g ahead id z [] e = refl
run_met g ahead id z (run ∷ runs) e =
    let rest = run_met g ahead id z runs e in
    ap₂ (λ (b : Bool) (l : List ZoneRun). cond b ((z, run) ∷ l) l) (ap (λ (b : Bool). has_id id run.kind && b) e ∙ whole (has_id id run.kind)) rest
  where
    whole : (b : Bool) → (b && true) ≡ b
    whole true = refl
    whole false = refl

run_unmet : (g : Geometry) (ahead : Bool) (id z : ℕ) (runs : List Run) → is_met g ahead id z ≡ false → filter (meets g ahead id) (placed z runs) ≡ []
unfolding meets
run_unmet g ahead id z [] e = refl
run_unmet g ahead id z (run ∷ runs) e =
    let rest = run_unmet g ahead id z runs e in
    ap₂ (λ (b : Bool) (l : List ZoneRun). cond b ((z, run) ∷ l) l) (ap (λ (b : Bool). has_id id run.kind && b) e ∙ none (has_id id run.kind)) rest
  where
    none : (b : Bool) → (b && false) ≡ false
    none true = refl
    none false = refl

-- a row of zones, all of which are met then, or none
zones_met : (m : Map) (ahead : Bool) (id a n : ℕ) → ((z : ℕ) → a ≤ z → z < a + n → is_met m.geometry ahead id z ≡ true)
    → filter (meets m.geometry ahead id) (runs_in m (range_with_len a n)) ≡ filter (λ p. has_id id p.1.kind) (runs_in m (range_with_len a n))
zones_met m ahead id a zero all = refl
zones_met m ahead id a (suc n) all =
    let here = placed a (runs_of m a) in
    let there = runs_in m (range_with_len (a + 1) n) in
    filter-append (meets m.geometry ahead id) here there
    ∙ ap₂ (λ (xs ys : List ZoneRun). xs ++ ys) (run_met m.geometry ahead id a (runs_of m a) (all a (omega arith) (omega arith)))
    (zones_met m ahead id (a + 1) n (λ z low high. all z (omega arith) (omega arith)))
    ∙ sym (filter-append (λ (p : ZoneRun). has_id id p.1.kind) here there)

zones_unmet : (m : Map) (ahead : Bool) (id a n : ℕ) → ((z : ℕ) → a ≤ z → z < a + n → is_met m.geometry ahead id z ≡ false)
    → filter (meets m.geometry ahead id) (runs_in m (range_with_len a n)) ≡ []
zones_unmet m ahead id a zero all = refl
zones_unmet m ahead id a (suc n) all =
    let here = placed a (runs_of m a) in
    let there = runs_in m (range_with_len (a + 1) n) in
    filter-append (meets m.geometry ahead id) here there
    ∙ ap₂ (λ (xs ys : List ZoneRun). xs ++ ys) (run_unmet m.geometry ahead id a (runs_of m a) (all a (omega arith) (omega arith)))
    (zones_unmet m ahead id (a + 1) n (λ z low high. all z (omega arith) (omega arith)))

range_cut : (k a n : ℕ) → k ≤ n → range_with_len a n ≡ range_with_len a k ++ range_with_len (a + k) (n - k)
range_cut zero a n within = ap₂ range_with_len (let e : a ≡ a + 0 = omega arith in e) (let e : n ≡ n - 0 = omega arith in e)
range_cut (suc k) a zero within = absurd (omega arith)
range_cut (suc k) a (suc n) within =
    ap (λ (xs : List ℕ). a ∷ xs)
    (range_cut k (a + 1) n (omega arith)
    ∙ ap₂ (λ (b j : ℕ). range_with_len (a + 1) k ++ range_with_len b j) (let e : a + 1 + k ≡ a + suc k = omega arith in e) (let e : n - k ≡ suc n - suc k = omega arith in e))

-- ---- the rows of all runs

both_rows : (g : Geometry) (id : ℕ) (xs ys : List IdRow) → places_in (rows_of id (xs ++ ys)) ≡ places_in (rows_of id xs) ++ places_in (rows_of id ys)
both_rows g id xs ys = ap places_in (filter-append (λ (r : IdRow). r.id == id) xs ys) ∙ map-append (λ (r : IdRow). r.place) (rows_of id xs) (rows_of id ys)

-- Those before the turn, and then those after it, stand in the order of the search.
pub rows_found : (m : Map) (id : ℕ) → 1 ≤ m.geometry.zones
    → places_in (rows_of id (rows_with m.geometry true (all_runs m) ++ rows_with m.geometry false (all_runs m))) ≡ map (extent_of m.geometry) (id_runs m id)
rows_found m id some =
    let g = m.geometry in
    let home = home_zone g id in
    let inside = home_low g id some in
    let low : List ℕ = range_with_len 0 home in
    let high : List ℕ = range_with_len home (g.zones - home) in
    let has : ZoneRun → Bool = (λ p. has_id id p.1.kind) in
    let cut : all_runs m ≡ runs_in m low ++ runs_in m high = ap (runs_in m) (range_cut home 0 g.zones (omega (arith, inside)) ∙ ap (λ (n : ℕ). low ++ range_with_len n (g.zones - home)) (let e : 0 + home ≡ home = omega arith in e)) ∙ flat_map-append (λ (z : ℕ). placed z (runs_of m z)) low high in
    let ahead : filter (meets g true id) (all_runs m) ≡ filter has (runs_in m high) =
    ap (filter (meets g true id)) cut ∙ filter-append (meets g true id) (runs_in m low) (runs_in m high)
    ∙ ap₂ (λ (xs ys : List ZoneRun). xs ++ ys)
    (zones_unmet m true id 0 home (λ z a b. lt-leb home z (omega (arith, b))))
    (zones_met m true id home (g.zones - home) (λ z a b. le-leb home z a)) in
    let behind : filter (meets g false id) (all_runs m) ≡ filter has (runs_in m low) =
    ap (filter (meets g false id)) cut ∙ filter-append (meets g false id) (runs_in m low) (runs_in m high)
    ∙ ap₂ (λ (xs ys : List ZoneRun). xs ++ ys)
    (zones_met m false id 0 home (λ z a b. le-leb (suc z) home (omega (arith, b))))
    (zones_unmet m false id home (g.zones - home) (λ z a b. lt-leb (suc z) home (omega (arith, a))))
    ∙ append-nil (filter has (runs_in m low)) in
    let order : id_runs m id ≡ filter has (runs_in m high) ++ filter has (runs_in m low) =
    ap (filter has) (flat_map-append (λ (z : ℕ). placed z (runs_of m z)) high low) ∙ filter-append has (runs_in m high) (runs_in m low) in
    both_rows g id (rows_with g true (all_runs m)) (rows_with g false (all_runs m))
    ∙ ap₂ (λ (xs ys : List Extent). xs ++ ys) (rows_met g true id (all_runs m) ∙ ap (map (extent_of g)) ahead) (rows_met g false id (all_runs m) ∙ ap (map (extent_of g)) behind)
    ∙ sym (ap (map (extent_of g)) order ∙ map-append (extent_of g) (filter has (runs_in m high)) (filter has (runs_in m low)))

-- ---- sorting

filter_same : (p q : IdRow → Bool) → ((r : IdRow) → p r ≡ q r) → (rows : List IdRow) → filter p rows ≡ filter q rows
filter_same p q same [] = refl
filter_same p q same (r ∷ rows) = ap₂ (λ (b : Bool) (l : List IdRow). cond b (r ∷ l) l) (same r) (filter_same p q same rows)

tied : (x y : ℕ) → (not (is_lt (nat_cmp x y)) && not (is_lt (nat_cmp y x))) ≡ (y == x)
tied x y = grind (arith, nat_tests)

-- A stable sort by identifiers keeps the rows of each in their order.
pub rows_sorted : (old new : List IdRow) → IsStableByKey (λ (r : IdRow). r.id) nat_cmp old new → (id : ℕ) → rows_of id new ≡ rows_of id old
rows_sorted old new stable id =
    let any : IdRow = record { id = id; place = record { first = 0; sectors = 0 } } in
    let of_id : IdRow → Bool = (λ r. r.id == id) in
    let ties_any : IdRow → Bool = ties (λ (a b : IdRow). is_lt (nat_cmp a.id b.id)) any in
    let same : (r : IdRow) → of_id r ≡ ties_any r = (λ r. sym (tied id r.id)) in
    filter_same of_id ties_any same new ∙ stable any ∙ sym (filter_same of_id ties_any same old)

-- ---- rows that stand together

module _ {X : Type 0} (p : X → Bool) where
  none_kept : (xs : List X) → AllWithin (λ x. p x ≡ false) xs 0 (length xs) → filter p xs ≡ []
  none_kept [] none = refl
  none_kept (x ∷ xs) none =
      ap₂ (λ (b : Bool) (l : List X). cond b (x ∷ l) l) (none 0 x (omega arith) (omega arith)) (none_kept xs (λ k d low high. none (suc k) d (omega arith) (omega (arith, high))))

  front_kept : (count : ℕ) (xs : List X) → AllWithin (λ x. p x ≡ true) xs 0 count → AllWithin (λ x. p x ≡ false) xs count (length xs) → take count xs ≡ filter p xs
  front_kept zero xs all none = sym (none_kept xs none)
  front_kept (suc count) [] all none = refl
  front_kept (suc count) (x ∷ xs) all none =
      let rest = front_kept count xs (λ k d low high. all (suc k) d (omega arith) (omega (arith, high))) (λ k d low high. none (suc k) d (omega (arith, low)) (omega (arith, high))) in
      ap₂ (λ (b : Bool) (l : List X). cond b (x ∷ l) (take count xs)) (sym (all 0 x (omega arith) (omega arith))) rest ∙ kept (p x) (all 0 x (omega arith) (omega arith)) x (filter p xs) (take count xs)
    where
      kept : (b : Bool) → b ≡ true → (x : X) (l l' : List X) → cond b (x ∷ l) l' ≡ cond b (x ∷ l) l
      kept true e x l l' = refl
      kept false e x l l' = absurd (cc)

  middle_kept : (from count : ℕ) (xs : List X) → AllWithin (λ x. p x ≡ false) xs 0 from → AllWithin (λ x. p x ≡ true) (drop from xs) 0 count
      → AllWithin (λ x. p x ≡ false) (drop from xs) count (length (drop from xs)) → take count (drop from xs) ≡ filter p xs
  middle_kept zero count xs before all behind = front_kept count xs all behind
  middle_kept (suc from) count [] before all behind = front_kept count [] all behind
  middle_kept (suc from) count (x ∷ xs) before all behind =
      middle_kept from count xs (λ k d low high. before (suc k) d (omega arith) (omega (arith, high))) all behind
      ∙ ap (λ (b : Bool). cond b (x ∷ filter p xs) (filter p xs)) (sym (before 0 x (omega arith) (omega arith)))

-- what is left of a list
pub all_left : (from : ℕ) (rows : List IdRow) → take (length rows - from) (drop from rows) ≡ drop from rows
all_left from rows = ap (λ (n : ℕ). take n (drop from rows)) (sym (length-drop from rows)) ∙ take-length (drop from rows)

-- those of an identifier, where rows rise by it
pub rows_cut : (rows : List IdRow) (id from count : ℕ) → from ≤ length rows → count ≤ length (drop from rows)
    → IsPartitionPoint (λ (r : IdRow). nat_lt r.id id ≡ true) (λ (r : IdRow). nat_lt r.id id ≡ false) rows from
    → IsPartitionPoint (λ (r : IdRow). nat_le r.id id ≡ true) (λ (r : IdRow). nat_le r.id id ≡ false) (drop from rows) count
    → take count (drop from rows) ≡ rows_of id rows
rows_cut rows id from count within inside low high =
    let long = length-drop from rows in
    middle_kept (λ (r : IdRow). r.id == id) from count rows
    (λ k d a b. below (get_or rows k d).id (low.0 k d a b))
    (λ k d a b. equal (get_or (drop from rows) k d).id (high.0 k d a b) (ap (λ (r : IdRow). nat_lt r.id id) (get_or-drop from rows k d) ∙ low.1 (from + k) d (omega arith) (omega (arith, b, inside, long))))
    (λ k d a b. above (get_or (drop from rows) k d).id (high.1 k d a b))
  where
    below : (n : ℕ) → nat_lt n id ≡ true → (n == id) ≡ false
    below n e = grind (arith, nat_tests, e)

    above : (n : ℕ) → nat_le n id ≡ false → (n == id) ≡ false
    above n e = grind (arith, nat_tests, e)

    equal : (n : ℕ) → nat_le n id ≡ true → nat_lt n id ≡ false → (n == id) ≡ true
    equal n e f = grind (arith, nat_tests, e, f)

-- ---- low numbers

pub one_low : (rows new : List IdRow) (r : IdRow) → new ≡ rows ++ r ∷ [] → IsLow r → All IsLow rows → All IsLow new
one_low rows new r is low all = subst (All IsLow) (sym is) (All-append IsLow rows (r ∷ []) all single)
  where
    single : All IsLow (r ∷ [])
    single zero d within = low
    single (suc k) d within = absurd (omega (arith, within))

-- ---- a walk

-- one more run
pub one_more : (m : Map) (ahead : Bool) (rows now new : List IdRow) (walk next : Walk) (result : Option ZoneRun) (p : ZoneRun)
    → ((done left : List ZoneRun) × (all_runs m ≡ done ++ left) × StandsBefore m left walk × (now ≡ rows ++ rows_with m.geometry ahead done))
    → ((left : List ZoneRun) → StandsBefore m left walk
    → MatchOption result ((left ≡ []) × StandsBefore m [] next) (λ (q : ZoneRun). (rest : List ZoneRun) × ((left ≡ q ∷ rest) × StandsBefore m rest next)))
    → result ≡ Some p → new ≡ now ++ row_of m.geometry ahead p p.1.kind
    → (done left : List ZoneRun) × (all_runs m ≡ done ++ left) × StandsBefore m left next × (new ≡ rows ++ rows_with m.geometry ahead done)
one_more m ahead rows now new walk next result p (done, left, all, stands, so_far) step is grown =
    let Step : Option ZoneRun → Type 0 = (λ r. MatchOption r ((left ≡ []) × StandsBefore m [] next) (λ (q : ZoneRun). (rest : List ZoneRun) × ((left ≡ q ∷ rest) × StandsBefore m rest next))) in
    let there : Step (Some p) = subst Step is (step left stands) in
    let rest = there.0 in
    let row = row_of m.geometry ahead p p.1.kind in
    let made : rows_with m.geometry ahead (done ++ p ∷ []) ≡ rows_with m.geometry ahead done ++ row =
    flat_map-append (λ (q : ZoneRun). row_of m.geometry ahead q q.1.kind) done (p ∷ []) ∙ ap (λ (l : List IdRow). rows_with m.geometry ahead done ++ l) (append-nil row) in (
      done ++ p ∷ [],
      rest,
      all ∙ ap (λ (l : List ZoneRun). done ++ l) there.1.0 ∙ sym (append_assoc done (p ∷ []) rest),
      there.1.1,
      grown ∙ ap (λ (l : List IdRow). l ++ row) so_far ∙ append_assoc rows (rows_with m.geometry ahead done) row ∙ ap (λ (l : List IdRow). rows ++ l) (sym made),
    )

-- no more
pub no_more : (m : Map) (ahead : Bool) (rows now : List IdRow) (walk next : Walk) (result : Option ZoneRun)
    → ((done left : List ZoneRun) × (all_runs m ≡ done ++ left) × StandsBefore m left walk × (now ≡ rows ++ rows_with m.geometry ahead done))
    → ((left : List ZoneRun) → StandsBefore m left walk
    → MatchOption result ((left ≡ []) × StandsBefore m [] next) (λ (q : ZoneRun). (rest : List ZoneRun) × ((left ≡ q ∷ rest) × StandsBefore m rest next)))
    → result ≡ None → now ≡ rows ++ rows_with m.geometry ahead (all_runs m)
no_more m ahead rows now walk next result (done, left, all, stands, so_far) step is =
    let Step : Option ZoneRun → Type 0 = (λ r. MatchOption r ((left ≡ []) × StandsBefore m [] next) (λ (q : ZoneRun). (rest : List ZoneRun) × ((left ≡ q ∷ rest) × StandsBefore m rest next))) in
    let there : Step None = subst Step is (step left stands) in
    let whole : all_runs m ≡ done = all ∙ ap (λ (l : List ZoneRun). done ++ l) there.0 ∙ append-nil done in
    so_far ∙ ap (λ (l : List ZoneRun). rows ++ rows_with m.geometry ahead l) (sym whole)

pub none_low : (rows : List IdRow) → rows ≡ [] → All IsLow rows
none_low rows is = subst (All IsLow) (sym is) (λ k d within. absurd (omega (arith, within)))
