-- Maps of one geometry that have the same holes and the same runs of each identifier have the same runs.
use Rattle.std.proofs.Common.{◌≡◌, ◌<◌, ◌≤◌, ℕ, ◌+◌, ◌==◌, true, List, [], ◌∷◌, filter, refl, sym, ap, ap₂, subst, ◌∙◌, arith, Ok, Err, inl, inr, eq-eqb}
use Rattle.std.specs.Prelude.{Contains}
use Rattle.std.proofs.lemmas.Bool.{cases_lt, eqb-true}
use Rattle.std.proofs.lemmas.List.{get_or_past}
use Rattle.fc_oldmap.specs.declared.Hole.{Hole}
use Rattle.fc_oldmap.specs.Holes.{hole}
use Rattle.fc_record.specs.declared.Geometry.{Geometry}
use Rattle.fc_record.specs.Record.{end_bit, first_bit}
use Rattle.fc_zone.specs.declared.Run.{Run}
use Rattle.fc_zone.specs.declared.RunKind.{RunKind}
use Rattle.fc_zone.specs.declared.RunKind.TheVariants as kinds
use Rattle.fc_zone.specs.declared.ZoneShape.{ZoneShape}
use Rattle.fc_zone.specs.Reading.{runs_of as runs_in_sector}
use Rattle.fc_zone.specs.Zone.{Spells}
use Rattle.fc_newmap.specs.Map.{Map, ZoneRun, all_runs, has_id, hole_runs, id_runs, is_hole, runs_of, shape, zone_numbers}
use Rattle.fc_newmap.specs.NewMap.{IsNewMap}
use Rattle.fc_newmap.specs.Edits.{KeepsRuns}
use Rattle.fc_newmap.proofs.HeldLemmas.{geometry_facts}
use Rattle.fc_newmap.proofs.PlaceLemmas.{contains_cases, contains_none, filter_in, id_run_in, in_filter, in_id_runs, in_range, in_zone, zone_in}
use Rattle.fc_image.proofs.EntriesLemmas.{from_map, in_mapped}
use Rattle.fc_image.specs.effects.Steady.{zone_holes}
use Rattle.fc_zone.proofs.ZoneLemmas.{Contains-head as contains_here, Contains-tail as contains_later}

-- ---- runs in a row

-- They lie one after another, from the one place to the other.
abbrev pub Row : ℕ → List Run → ℕ → Type 0
Row at [] end = at ≡ end
Row at (run ∷ runs) end = (run.start ≡ at) × (0 < run.len) × Row (at + run.len) runs end

spelled_row : (s : ZoneShape) (bits : List ℕ) (at : ℕ) (runs : List Run) (end : ℕ) → Spells s bits at runs end → Row at runs end
spelled_row s bits at [] end h = h
spelled_row s bits at (run ∷ runs) end h = (h.0, (let long = h.1.long in omega (arith, long)), spelled_row s bits (at + run.len) runs end h.3)

row_le : (at : ℕ) (runs : List Run) (end : ℕ) → Row at runs end → at ≤ end
row_le at [] end h = omega (arith, h)
row_le at (run ∷ runs) end h = let more = row_le (at + run.len) runs end h.2 in omega (arith, more)

row_start : (at : ℕ) (runs : List Run) (end : ℕ) → Row at runs end → (run : Run) → Contains runs run → at ≤ run.start
row_start at [] end h run c = absurd (contains_none run c)
row_start at (r ∷ runs) end h run c = elim (contains_cases r runs run c) [
  | Ok here ↦ (let begins = subst (λ (x : Run). x.start ≡ at) here h.0 in omega (arith, begins))
  | Err later ↦ (let more = row_start (at + r.len) runs end h.2 run later in omega (arith, more))
]

-- Two rows are the same if the second has all runs of the first.
rows_same : (at : ℕ) (xs ys : List Run) (end : ℕ) → Row at xs end → Row at ys end → ((r : Run) → Contains xs r → Contains ys r) → xs ≡ ys
rows_same at [] [] end h k has = refl
rows_same at [] (q ∷ ys) end h k has = absurd (let le = row_le (at + q.len) ys end k.2 in let some = k.1 in omega (arith, h, le, some))
rows_same at (r ∷ xs) [] end h k has = absurd (contains_none r (has r (contains_here r xs)))
rows_same at (r ∷ xs) (q ∷ ys) end h k has =
    let first : q ≡ r = elim (contains_cases q ys r (has r (contains_here r xs))) [
      | Ok here ↦ here
      | Err later ↦ absurd (let more = row_start (at + q.len) ys end k.2 r later in let some = k.1 in let begins = h.0 in omega (arith, more, some, begins))
    ] in
    let rest : xs ≡ ys = rows_same (at + r.len) xs ys end h.2 (subst (λ (x : Run). Row (at + x.len) ys end) first k.2)
    (λ x c. elim (contains_cases q ys x (has x (contains_later r xs x c))) [
      | Ok here ↦ absurd (let begins = subst (λ (y : Run). y.start ≡ at) here k.0 in let more = row_start (at + r.len) xs end h.2 x c in let some = h.1 in omega (arith, begins, more, some))
      | Err later ↦ later
    ]) in
    ap₂ (λ (x : Run) (zs : List Run). x ∷ zs) (sym first) rest

-- ---- the runs of a zone

abbrev in_zone_of : ℕ → Run → ZoneRun
in_zone_of z run = (z, run)

in_all : (m : Map) (z : ℕ) (r : Run) → z < m.geometry.zones → Contains (runs_of m z) r → Contains (all_runs m) (z, r)
in_all m z r low at =
    in_zone m (zone_numbers m.geometry) (z, r) (in_range 0 m.geometry.zones z (omega arith) (omega (arith, low))) (in_mapped (in_zone_of z) (runs_of m z) r at)

out_of : (m : Map) (z : ℕ) (r : Run) → Contains (all_runs m) (z, r) → Contains (runs_of m z) r
out_of m z r at =
    let from = from_map (in_zone_of z) (runs_of m z) (z, r) (zone_in m (zone_numbers m.geometry) (z, r) at).1 in
    subst (λ (x : Run). Contains (runs_of m z) x) (ap (λ (p : ZoneRun). p.1) from.2) from.1

hole_in : (m : Map) (z : ℕ) (r : Run) → z < m.geometry.zones → Contains (runs_of m z) r → is_hole r.kind ≡ true → Contains (zone_holes (hole_runs m) z) (hole r.start r.len)
hole_in m z r low at is =
    in_mapped (λ (p : ZoneRun). hole p.1.start p.1.len) (filter (λ (p : ZoneRun). p.0 == z) (hole_runs m)) (z, r)
    (in_filter (λ (p : ZoneRun). p.0 == z) (hole_runs m) (z, r) (in_filter (λ (p : ZoneRun). is_hole p.1.kind) (all_runs m) (z, r) (in_all m z r low at) is) (eq-eqb z z refl))

hole_out : (m : Map) (z : ℕ) (h : Hole) → Contains (zone_holes (hole_runs m) z) h → (r : Run) × Contains (runs_of m z) r × (is_hole r.kind ≡ true) × (hole r.start r.len ≡ h)
hole_out m z h at =
    let a = from_map (λ (p : ZoneRun). hole p.1.start p.1.len) (filter (λ (p : ZoneRun). p.0 == z) (hole_runs m)) h at in
    let b = filter_in (λ (p : ZoneRun). p.0 == z) (hole_runs m) a.0 a.1 in
    let c = filter_in (λ (p : ZoneRun). is_hole p.1.kind) (all_runs m) a.0 b.0 in
    (a.0.1, out_of m z a.0.1 (subst (λ (n : ℕ). Contains (all_runs m) (n, a.0.1)) (eqb-true a.0.0 z b.1) c.0), c.1, a.2)

hole_kind : (k : RunKind) → is_hole k ≡ true → k ≡ kinds.Hole
hole_kind kinds.Hole e = refl
hole_kind (kinds.Id id) e = absurd (cc)

-- ---- maps

module _ (m n : Map) (is_m : IsNewMap m) (is_n : IsNewMap n) (geometry : n.geometry ≡ m.geometry)
    (holes : (z : ℕ) → z < m.geometry.zones → zone_holes (hole_runs n) z ≡ zone_holes (hole_runs m) z) (of_ids : (id : ℕ) → id_runs n id ≡ id_runs m id) where
  has_run : (z : ℕ) (r : Run) (k : RunKind) → r.kind ≡ k → z < m.geometry.zones → Contains (runs_of n z) r → Contains (runs_of m z) r
  has_run z r kinds.Hole e low at =
      let low_n = subst (λ (g : Geometry). z < g.zones) (sym geometry) low in
      let q = hole_out m z (hole r.start r.len) (subst (λ (hs : List Hole). Contains hs (hole r.start r.len)) (holes z low) (hole_in n z r low_n at (ap is_hole e))) in
      subst (λ (x : Run). Contains (runs_of m z) x)
      (λ i. record { start = ap (λ (h : Hole). h.start) q.3 i; len = ap (λ (h : Hole). h.len) q.3 i; kind = (hole_kind q.0.kind q.2 ∙ sym e) i }) q.1
  has_run z r (kinds.Id id) e low at =
      let low_n = subst (λ (g : Geometry). z < g.zones) (sym geometry) low in
      let own : Contains (id_runs n id) (z, r) = in_id_runs n id (z, r) (geometry_facts n.geometry is_n.of_record).zones (in_all n z r low_n at) (ap (has_id id) e ∙ eq-eqb id id refl) in
      out_of m z r (id_run_in m id (z, r) (geometry_facts m.geometry is_m.of_record).zones (subst (λ (ps : List ZoneRun). Contains ps (z, r)) (of_ids id) own)).0

  same_zone : (z : ℕ) → z < m.geometry.zones → runs_of n z ≡ runs_of m z
  same_zone z low =
      let low_n = subst (λ (g : Geometry). z < g.zones) (sym geometry) low in
      rows_same (first_bit z) (runs_of n z) (runs_of m z) (end_bit m.geometry z)
      (subst (λ (g : Geometry). Row (first_bit z) (runs_of n z) (end_bit g z)) geometry
      (spelled_row (shape n.geometry z) _ (first_bit z) (runs_of n z) (end_bit n.geometry z) (is_n.right z low_n).spelled))
      (spelled_row (shape m.geometry z) _ (first_bit z) (runs_of m z) (end_bit m.geometry z) (is_m.right z low).spelled)
      (λ r at. has_run z r r.kind refl low at)

  same_past : (z : ℕ) → m.geometry.zones ≤ z → runs_of n z ≡ runs_of m z
  same_past z high =
      let all_m = is_m.all in
      let all_n = is_n.all in
      let size : n.geometry.zones ≡ m.geometry.zones = ap (λ (g : Geometry). g.zones) geometry in
      ap₂ (λ (g : Geometry) (s : List ℕ). runs_in_sector (shape g z) s) geometry (get_or_past n.zones z [] (omega (arith, all_n, size, high)) ∙ sym (get_or_past m.zones z [] (omega (arith, all_m, high))))

  pub same_runs : KeepsRuns m n
  same_runs = record {
    was = is_m;
    map = is_n;
    geometry = geometry;
    runs = λ z. elim (cases_lt z m.geometry.zones) [
      | inl low ↦ same_zone z low
      | inr high ↦ same_past z high
    ];
  }
