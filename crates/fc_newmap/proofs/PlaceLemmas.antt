-- Which places the runs of a map are at, and which sectors they take.
use Rattle.std.proofs.Common.{◌≡◌, ◌<◌, ◌≤◌, ℕ, zero, suc, ◌+◌, ◌-◌, ◌/◌, ◌%◌, Bool, true, false, cond, List, [], ◌∷◌, ◌++◌, map, refl, sym, ap, ap₂, subst, ◌∙◌, inl, inr, arith, mod-lt}
use Rattle.std.specs.Prelude.{◌||◌, ◌==◌, Contains, Result, Ok, Err, filter}
use Rattle.std.specs.List.{flat_map, range_with_len, list_any}
use Rattle.std.proofs.lemmas.Bool.{eq-eqb, eqb-true, cases_lt}
use Rattle.std.proofs.lemmas.List.Elements.{filter-append, Contains-append_left, Contains-append_right, Contains-append_cases}
use Rattle.fc_record.specs.declared.Geometry.{Geometry}
use Rattle.fc_zone.specs.declared.Run.{Run}
use Rattle.fc_newmap.specs.Map.{Map, ZoneRun, runs_of, runs_in, all_runs, id_runs, has_id, search_order, home_zone, first_sector, sector_count, run_sectors, sectors_of}
use Rattle.fc_newmap.specs.RunsLaw.{HoldsSector, placed}
use Rattle.fc_device.specs.Numbers.{is_listed as is_in}
use Rattle.fc_zone.proofs.ZoneLemmas.{Contains-head as contains_here, Contains-tail as contains_later}

pub either : (a b : Bool) → (a || b) ≡ true → Result (a ≡ true) (b ≡ true)
either true b e = Ok refl
either false b e = Err e

pub in_front : (xs ys : List ℕ) (s : ℕ) → is_in xs s ≡ true → is_in (xs ++ ys) s ≡ true
in_front [] ys s e = absurd (cc)
in_front (x ∷ xs) ys s e = by (x == s) e (in_front xs ys s)
  where
    by : (b : Bool) → (b || is_in xs s) ≡ true → (is_in xs s ≡ true → is_in (xs ++ ys) s ≡ true) → (b || is_in (xs ++ ys) s) ≡ true
    by true h more = refl
    by false h more = more h

pub in_back : (xs ys : List ℕ) (s : ℕ) → is_in ys s ≡ true → is_in (xs ++ ys) s ≡ true
in_back [] ys s e = e
in_back (x ∷ xs) ys s e = ap (λ b. (x == s) || b) (in_back xs ys s e) ∙ all_true (x == s)
  where
    all_true : (b : Bool) → (b || true) ≡ true
    all_true true = refl
    all_true false = refl

pub in_either : (xs ys : List ℕ) (s : ℕ) → is_in (xs ++ ys) s ≡ true → Result (is_in xs s ≡ true) (is_in ys s ≡ true)
in_either [] ys s e = Err e
in_either (x ∷ xs) ys s e = by (x == s) e (in_either xs ys s)
  where
    by : (b : Bool) → (b || is_in (xs ++ ys) s) ≡ true → (is_in (xs ++ ys) s ≡ true → Result (is_in xs s ≡ true) (is_in ys s ≡ true))
        → Result ((b || is_in xs s) ≡ true) (is_in ys s ≡ true)
    by true h more = Ok refl
    by false h more = more h

pub in_range : (from n s : ℕ) → from ≤ s → s < from + n → is_in (range_with_len from n) s ≡ true
in_range from zero s low high = absurd (omega arith)
in_range from (suc n) s low high = elim (cases_lt from s) [
  | inl less ↦ in_back (from ∷ []) (range_with_len (from + 1) n) s (in_range (from + 1) n s (omega arith) (omega arith))
  | inr other ↦ ap (λ b. b || is_in (range_with_len (from + 1) n) s) (eq-eqb from s (omega arith))
]

pub range_in : (from n s : ℕ) → is_in (range_with_len from n) s ≡ true → (from ≤ s) × (s < from + n)
range_in from zero s e = absurd (cc)
range_in from (suc n) s e =
    elim (either (from == s) (is_in (range_with_len (from + 1) n) s) e) [
      | Ok here ↦ (let same = eqb-true from s here in (omega arith, omega arith))
      | Err later ↦ (let rest = range_in (from + 1) n s later in (omega (arith, rest.0), omega (arith, rest.1)))
    ]

-- ---- sectors of places

pub contains_cases : {X : Type 0} (x : X) (xs : List X) (y : X) → Contains (x ∷ xs) y → Result (x ≡ y) (Contains xs y)
contains_cases x xs y (zero, h, e) = Ok e
contains_cases x xs y (suc k, h, e) = Err (k, omega arith, e)

pub contains_none : {X : Type 0} (y : X) → Contains [] y → ⊥
contains_none y (k, h, e) = omega arith

pub holder_of : (g : Geometry) (places : List ZoneRun) (s : ℕ) → is_in (sectors_of g places) s ≡ true → (p : ZoneRun) × (Contains places p × HoldsSector g p s)
holder_of g [] s e = absurd (cc)
holder_of g (p ∷ places) s e = elim (in_either (run_sectors g p) (sectors_of g places) s e) [
  | Ok here ↦ (let r = range_in (first_sector g p) (sector_count g p) s here in (p, (contains_here p places, record { from = r.0; to = r.1 })))
  | Err later ↦ (let h = holder_of g places s later in (h.0, (contains_later p places h.0 h.1.0, h.1.1)))
]

pub held_in : (g : Geometry) (places : List ZoneRun) (p : ZoneRun) (s : ℕ) → Contains places p → HoldsSector g p s → is_in (sectors_of g places) s ≡ true
held_in g [] p s c h = absurd (contains_none p c)
held_in g (x ∷ places) p s c h = elim (contains_cases x places p c) [
  | Ok here ↦ in_front (run_sectors g x) (sectors_of g places) s
      (subst (λ (y : ZoneRun). is_in (run_sectors g y) s ≡ true) (sym here) (in_range (first_sector g p) (sector_count g p) s h.from h.to))
  | Err later ↦ in_back (run_sectors g x) (sectors_of g places) s (held_in g places p s later h)
]

pub filter_in : (t : ZoneRun → Bool) (places : List ZoneRun) (p : ZoneRun) → Contains (filter t places) p → Contains places p × (t p ≡ true)
filter_in t [] p c = absurd (contains_none p c)
filter_in t (x ∷ places) p c = by (t x) refl c (filter_in t places p)
  where
    by : (b : Bool) → t x ≡ b → Contains (cond b (x ∷ filter t places) (filter t places)) p → (Contains (filter t places) p → Contains places p × (t p ≡ true))
        → Contains (x ∷ places) p × (t p ≡ true)
    by true e h more = elim (contains_cases x (filter t places) p h) [
      | Ok here ↦ (subst (λ (y : ZoneRun). Contains (y ∷ places) p) (sym here) (contains_here p places), ap t (sym here) ∙ e)
      | Err later ↦ (let m = more later in (contains_later x places p m.0, m.1))
    ]
    by false e h more = let m = more h in (contains_later x places p m.0, m.1)

pub in_filter : (t : ZoneRun → Bool) (places : List ZoneRun) (p : ZoneRun) → Contains places p → t p ≡ true → Contains (filter t places) p
in_filter t [] p c e = absurd (contains_none p c)
in_filter t (x ∷ places) p c e = by (t x) refl (contains_cases x places p c) (λ h. in_filter t places p h e)
  where
    by : (b : Bool) → t x ≡ b → Result (x ≡ p) (Contains places p) → (Contains places p → Contains (filter t places) p) → Contains (cond b (x ∷ filter t places) (filter t places)) p
    by true f (Ok here) more = subst (λ (y : ZoneRun). Contains (y ∷ filter t places) p) (sym here) (contains_here p (filter t places))
    by true f (Err later) more = contains_later x (filter t places) p (more later)
    by false f (Ok here) more = absurd (let g : t x ≡ true = ap t here ∙ e in cc)
    by false f (Err later) more = more later

-- ---- runs of some zones

placed_zone : (z : ℕ) (runs : List Run) (p : ZoneRun) → Contains (placed z runs) p → z ≡ p.0
placed_zone z [] p c = absurd (contains_none p c)
placed_zone z (run ∷ runs) p c = elim (contains_cases (z, run) (placed z runs) p c) [
  | Ok here ↦ ap (λ (q : ZoneRun). q.0) here
  | Err later ↦ placed_zone z runs p later
]

pub zone_in : (m : Map) (zones : List ℕ) (p : ZoneRun) → Contains (runs_in m zones) p → (is_in zones p.0 ≡ true) × Contains (placed p.0 (runs_of m p.0)) p
zone_in m [] p c = absurd (contains_none p c)
zone_in m (z ∷ zones) p c = elim (Contains-append_cases (placed z (runs_of m z)) (runs_in m zones) p c) [
  | inl here ↦ (
      let e = placed_zone z (runs_of m z) p here in
      (ap (λ b. b || is_in zones p.0) (eq-eqb z p.0 e), subst (λ (n : ℕ). Contains (placed n (runs_of m n)) p) e here))
  | inr later ↦ (let r = zone_in m zones p later in (in_back (z ∷ []) zones p.0 r.0, r.1))
]

pub in_zone : (m : Map) (zones : List ℕ) (p : ZoneRun) → is_in zones p.0 ≡ true → Contains (placed p.0 (runs_of m p.0)) p → Contains (runs_in m zones) p
in_zone m [] p e c = absurd (cc)
in_zone m (z ∷ zones) p e c = elim (either (z == p.0) (is_in zones p.0) e) [
  | Ok here ↦ Contains-append_left (placed z (runs_of m z)) (runs_in m zones) p (subst (λ (n : ℕ). Contains (placed n (runs_of m n)) p) (sym (eqb-true z p.0 here)) c)
  | Err later ↦ Contains-append_right (placed z (runs_of m z)) (runs_in m zones) p (in_zone m zones p later c)
]

-- the search for an identifier comes to each zone
pub home_low : (g : Geometry) (id : ℕ) → 1 ≤ g.zones → home_zone g id < g.zones
home_low g id some = by (id == 2)
  where
    by : (b : Bool) → cond b (g.zones / 2) (id / g.ids_per_zone % g.zones) < g.zones
    by true = omega arith
    by false = mod-lt (id / g.ids_per_zone) some

pub order_in : (g : Geometry) (id z : ℕ) → 1 ≤ g.zones → is_in (search_order g id) z ≡ true → z < g.zones
order_in g id z some e =
    let home = home_zone g id in
    let low = home_low g id some in
    elim (in_either (range_with_len home (g.zones - home)) (range_with_len 0 home) z e) [
      | Ok here ↦ (let r = range_in home (g.zones - home) z here in omega (arith, r.1))
      | Err later ↦ (let r = range_in 0 home z later in omega (arith, r.1))
    ]

pub in_order_of : (g : Geometry) (id z : ℕ) → 1 ≤ g.zones → z < g.zones → is_in (search_order g id) z ≡ true
in_order_of g id z some h =
    let home = home_zone g id in
    let low = home_low g id some in
    elim (cases_lt z home) [
      | inl less ↦ in_back (range_with_len home (g.zones - home)) (range_with_len 0 home) z (in_range 0 home z (omega arith) (omega arith))
      | inr other ↦ in_front (range_with_len home (g.zones - home)) (range_with_len 0 home) z (in_range home (g.zones - home) z (omega arith) (omega arith))
    ]

pub id_run_in : (m : Map) (id : ℕ) (p : ZoneRun) → 1 ≤ m.geometry.zones → Contains (id_runs m id) p → Contains (all_runs m) p × (has_id id p.1.kind ≡ true)
id_run_in m id p some c =
    let f = filter_in (λ q. has_id id q.1.kind) (runs_in m (search_order m.geometry id)) p c in
    let z = zone_in m (search_order m.geometry id) p f.0 in
    (in_zone m (range_with_len 0 m.geometry.zones) p (in_range 0 m.geometry.zones p.0 (omega arith) (let h = order_in m.geometry id p.0 some z.0 in omega arith)) z.1, f.1)

pub in_id_runs : (m : Map) (id : ℕ) (p : ZoneRun) → 1 ≤ m.geometry.zones → Contains (all_runs m) p → has_id id p.1.kind ≡ true → Contains (id_runs m id) p
in_id_runs m id p some c e =
    let z = zone_in m (range_with_len 0 m.geometry.zones) p c in
    let low = range_in 0 m.geometry.zones p.0 z.0 in
    in_filter (λ q. has_id id q.1.kind) (runs_in m (search_order m.geometry id)) p
    (in_zone m (search_order m.geometry id) p (in_order_of m.geometry id p.0 some (omega (arith, low.1))) z.1) e

-- ---- an identifier's runs, zone by zone

by_zones : (t : ZoneRun → Bool) (one two : ℕ → List Run) (zones : List ℕ) → ((z : ℕ) → is_in zones z ≡ true → filter t (placed z (two z)) ≡ filter t (placed z (one z)))
    → filter t (flat_map (λ z. placed z (two z)) zones) ≡ filter t (flat_map (λ z. placed z (one z)) zones)
by_zones t one two [] same = refl
by_zones t one two (z ∷ zones) same =
    filter-append t (placed z (two z)) (flat_map (λ y. placed y (two y)) zones)
    ∙ ap₂ (λ (xs ys : List ZoneRun). xs ++ ys) (same z (ap (λ b. b || is_in zones z) (eq-eqb z z refl))) (by_zones t one two zones (λ y e. same y (in_back (z ∷ []) zones y e)))
    ∙ sym (filter-append t (placed z (one z)) (flat_map (λ y. placed y (one y)) zones))

pub id_runs_by_zones : (m m' : Map) (id : ℕ) → m'.geometry ≡ m.geometry → 1 ≤ m.geometry.zones
    → ((z : ℕ) → z < m.geometry.zones → filter (λ p. has_id id p.1.kind) (placed z (runs_of m' z)) ≡ filter (λ p. has_id id p.1.kind) (placed z (runs_of m z)))
    → id_runs m' id ≡ id_runs m id
id_runs_by_zones m m' id e some same =
    ap (λ (g : Geometry). filter (λ (p : ZoneRun). has_id id p.1.kind) (runs_in m' (search_order g id))) e
    ∙ by_zones (λ p. has_id id p.1.kind) (runs_of m) (runs_of m') (search_order m.geometry id) (λ z i. same z (order_in m.geometry id z some i))
