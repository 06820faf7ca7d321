-- The pass over all runs that makes a tally.
use Rattle.std.proofs.Common.{◌≡◌, ◌<◌, ◌≤◌, ℕ, ◌+◌, ◌-◌, Bool, false, cond, List, [], ◌∷◌, ◌++◌, length, replicate, refl, sym, ap, subst, ◌∙◌, inl, inr, arith, eq-eqb}
use Rattle.std.specs.Prelude.{Contains, Ok, Err, sum_by}
use Rattle.std.proofs.lemmas.Bool.{cases_lt}
use Rattle.std.proofs.lemmas.List.{append_assoc, append-nil, get_or-replicate, get_or_past, length-replicate}
use Rattle.std.proofs.lemmas.List.Elements.{Contains-append_cases, Contains-append_left, Contains-append_right}
use Rattle.std.proofs.lemmas.List.Sums.{sum_by-append, sum_by-cons}
use Rattle.fc_bytes.specs.Bits.{bits}
use Rattle.fc_record.specs.declared.Geometry.{Geometry}
use Rattle.fc_zone.specs.declared.Run.{Run}
use Rattle.fc_zone.specs.declared.RunKind.{RunKind}
use Rattle.fc_zone.specs.declared.RunKind.TheVariants.{Hole, Id}
use Rattle.fc_newmap.specs.declared.tally.IdTally.{IdTally}
use Rattle.fc_newmap.specs.Map.{Map, ZoneRun, all_runs, bits_in, has_id, id_runs, runs_of, zone_numbers}
use Rattle.fc_newmap.specs.NewMap.{IsNewMap}
use Rattle.fc_newmap.specs.Tally.{HasRoom, IsTally, counted, no_row, no_runs, row_of, row_with, zones_before}
use Rattle.fc_newmap.proofs.HeldLemmas.{geometry_facts}
use Rattle.fc_newmap.proofs.PlaceLemmas.{contains_cases, contains_none, in_range, in_zone, zone_in}
use Rattle.fc_newmap.proofs.RowLemmas.{Covers, Fits, RunsOf, Spans, fits_kept, fits_none, fits_row, not_both, spans_of}
use Rattle.fc_newmap.proofs.RowChangeLemmas.{IsNew, More, fits_more}
use Rattle.fc_newmap.proofs.ZoneRunLemmas.{contains_placed, new_run, placed_contains}
use Rattle.fc_zone.proofs.ZoneLemmas.{Contains-head as contains_here}
use Rattle.fc_newmap.proofs.BitSumLemmas.{all_bits, bits_high, bits_of_id, share}
use Rattle.fc_newmap.proofs.TallyRowLemmas.{counted_bits, counted_long, counted_row}

-- ---- the pass over all runs

abbrev pub Passed : List ZoneRun → ℕ → Run → Type 0
Passed runs z run = Contains runs (z, run)

-- these runs are counted
pub record CountsRuns (m : Map) (runs : List ZoneRun) (rows : List IdTally) : Type 0 where
  pub bits : (id : ℕ) → id < length rows → (row_of rows id).bits ≡ sum_by (bits_of_id id) runs
  pub fits : (id : ℕ) → id < length rows → Fits m.geometry id (Passed runs) (row_of rows id)

pub none_counted : (m : Map) (n : ℕ) (rows : List IdTally) → rows ≡ replicate n (no_runs m.geometry) → CountsRuns m [] rows
none_counted m n rows e = record {
  bits = λ id low. ap (λ (r : IdTally). r.bits) (is id low);
  fits = λ id low. subst (Fits m.geometry id (Passed [])) (sym (is id low)) (fits_none m.geometry id (Passed []) (λ z run in' c of_id. contains_none (let p : ZoneRun = (z, run) in p) c));
}
  where
    is : (id : ℕ) → id < length rows → row_of rows id ≡ no_runs m.geometry
    is id low =
        let low' : id < n = omega (arith, low, ap length e, length-replicate n (no_runs m.geometry)) in
        ap (λ (rs : List IdTally). row_of rs id) e ∙ get_or-replicate n id (no_runs m.geometry) no_row low'

-- the runs that were passed, and one more
pushed_there : (id : ℕ) (runs : List ZoneRun) (run : ZoneRun) (y : ℕ) → Covers id (More (Passed runs) run.0 run.1 y) (Passed (runs ++ run ∷ []) y)
pushed_there id runs run y = λ other in' is. (
  other,
  (
    elim in' [
      | inl old ↦ Contains-append_left runs (run ∷ []) (y, other) old
      | inr new ↦ Contains-append_right runs (run ∷ []) (y, other)
          (subst (λ (u : Run). Contains (run ∷ []) (y, u)) (sym new.1) (subst (λ (k : ℕ). Contains (run ∷ []) (k, run.1)) (sym new.0) (contains_here run [])))
    ],
    is,
    omega arith,
  ),
)

pushed_spans : (id : ℕ) (runs : List ZoneRun) (run : ZoneRun) (y : ℕ) → Spans id (More (Passed runs) run.0 run.1 y) (Passed (runs ++ run ∷ []) y)
pushed_spans id runs run y = spans_of id (More (Passed runs) run.0 run.1 y) (Passed (runs ++ run ∷ []) y) (λ other in'. elim in' [
  | inl old ↦ Contains-append_left runs (run ∷ []) (y, other) old
  | inr new ↦ Contains-append_right runs (run ∷ []) (y, other)
      (subst (λ (u : Run). Contains (run ∷ []) (y, u)) (sym new.1) (subst (λ (k : ℕ). Contains (run ∷ []) (k, run.1)) (sym new.0) (contains_here run [])))
])

pushed_back : (id : ℕ) (runs : List ZoneRun) (run : ZoneRun) (y : ℕ) → Covers id (Passed (runs ++ run ∷ []) y) (More (Passed runs) run.0 run.1 y)
pushed_back id runs run y = λ other c is. (
  other,
  (
    elim (Contains-append_cases runs (run ∷ []) (y, other) c) [
      | inl old ↦ inl old
      | inr here ↦ elim (contains_cases run [] (y, other) here) [
        | Ok last ↦ inr (ap (λ (p : ZoneRun). p.0) (sym last), ap (λ (p : ZoneRun). p.1) (sym last))
        | Err none ↦ absurd (contains_none (let p : ZoneRun = (y, other) in p) none)
      ]
    ],
    is,
    omega arith,
  ),
)

pushed_none : (id : ℕ) (runs : List ZoneRun) (run : ZoneRun) → has_id id run.1.kind ≡ false → (y : ℕ) → Covers id (Passed (runs ++ run ∷ []) y) (Passed runs y)
pushed_none id runs run none y = λ other c is. (
  other,
  (
    elim (Contains-append_cases runs (run ∷ []) (y, other) c) [
      | inl old ↦ old
      | inr here ↦ elim (contains_cases run [] (y, other) here) [
        | Ok last ↦ absurd (not_both (has_id id other.kind) is (ap (λ (p : ZoneRun). has_id id p.1.kind) (sym last) ∙ none))
        | Err none' ↦ absurd (contains_none (let p : ZoneRun = (y, other) in p) none')
      ]
    ],
    is,
    omega arith,
  ),
)

pushed_old : (id : ℕ) (runs : List ZoneRun) (run : ZoneRun) (y : ℕ) → Covers id (Passed runs y) (Passed (runs ++ run ∷ []) y)
pushed_old id runs run y = λ other c is. (other, (Contains-append_left runs (run ∷ []) (y, other) c, is, omega arith))

one_fits : (m : Map) (runs : List ZoneRun) (run : ZoneRun) (rows : List IdTally) (id : ℕ) → run.0 < m.geometry.zones → id < length rows → IsNew m.geometry id run.0 (Passed runs) run.1 → Fits m.geometry id (Passed runs) (row_of rows id)
    → Fits m.geometry id (Passed (runs ++ run ∷ [])) (row_of (counted m.geometry rows run.0 run.1.kind run.1.start run.1.len) id)
one_fits m runs run rows id zone low new fits =
    let g = m.geometry in
    let In = Passed (runs ++ run ∷ []) in
    elim (counted_row g rows run.0 run.1.kind run.1.start run.1.len id low) [
      | inl other ↦ subst (Fits g id In) (sym other.1) (fits_kept g id (Passed runs) In (row_of rows id) (λ y in'. pushed_old id runs run y) (λ y in'. pushed_none id runs run other.0 y)
          (λ y in'. spans_of id (Passed runs y) (In y) (λ u c. Contains-append_left runs (run ∷ []) (y, u) c)) fits)
      | inr mine ↦ (
          let row = row_with (row_of rows id) (zones_before g id run.0) run.1.start run.1.len in
          subst (Fits g id In) (sym mine.1)
          (fits_kept g id (More (Passed runs) run.0 run.1) In row (λ y in'. pushed_there id runs run y) (λ y in'. pushed_back id runs run y)
          (λ y in'. pushed_spans id runs run y) (fits_more g id run.0 (Passed runs) (row_of rows id) run.1 zone mine.0 fits run.1.len refl new)))
    ]

pub one_counted : (m : Map) (runs left rest : List ZoneRun) (run : ZoneRun) (g : Geometry) (old new : List IdTally) → IsNewMap m → runs ++ left ≡ all_runs m → left ≡ run ∷ rest → run.0 < m.geometry.zones → g ≡ m.geometry → new ≡ counted g old run.0 run.1.kind run.1.start run.1.len → CountsRuns m runs old
    → CountsRuns m (runs ++ run ∷ []) new
one_counted m runs left rest run g old new is so_far step zone same e counts = record {
  bits = λ id low.
      (let low' : id < length old = omega (arith, low, ap length e, counted_long g old run.0 run.1.kind run.1.start run.1.len) in
      omega (arith, ap (λ (rs : List IdTally). (row_of rs id).bits) e, counted_bits g old run.0 run.1.kind run.1.start run.1.len id low', counts.bits id low', sum_by-append (bits_of_id id) runs (run ∷ []), sum_by-cons (bits_of_id id) run []));
  fits = λ id low.
      (let low' : id < length old = omega (arith, low, ap length e, counted_long g old run.0 run.1.kind run.1.start run.1.len) in
      let first = new_run m runs rest run id is zone (ap (λ (l : List ZoneRun). runs ++ l) (sym step) ∙ so_far) in
      let made : new ≡ counted m.geometry old run.0 run.1.kind run.1.start run.1.len = e ∙ ap (λ (h : Geometry). counted h old run.0 run.1.kind run.1.start run.1.len) same in
      subst (λ (rs : List IdTally). Fits m.geometry id (Passed (runs ++ run ∷ [])) (row_of rs id)) (sym made) (one_fits m runs run old id zone low' first (counts.fits id low')));
}

pub walked_on : (passed left rest all : List ZoneRun) (run : ZoneRun) → passed ++ left ≡ all → left ≡ run ∷ rest → (passed ++ run ∷ []) ++ rest ≡ all
walked_on passed left rest all run so_far e = append_assoc passed (run ∷ []) rest ∙ ap (λ (l : List ZoneRun). passed ++ l) (sym e) ∙ so_far

-- the row of a run's identifier has room for it
pub has_room : (m : Map) (passed left rest : List ZoneRun) (run : ZoneRun) (g : Geometry) (rows : List IdTally) → IsNewMap m → g ≡ m.geometry → passed ++ left ≡ all_runs m → left ≡ run ∷ rest → CountsRuns m passed rows
    → HasRoom g rows run.1.kind run.1.len
has_room m passed left rest run g rows is same so_far e counts = by run.1.kind refl
  where
    by : (kind : RunKind) → run.1.kind ≡ kind → HasRoom g rows kind run.1.len
    by Hole k = tt
    by (Id id) k =
        let facts = geometry_facts m.geometry is.of_record in
        let all : sum_by (bits_of_id id) passed + (share id run.1.kind run.1.len + sum_by (bits_of_id id) rest) ≡ bits_in (id_runs m id) =
        ap (λ (n : ℕ). sum_by (bits_of_id id) passed + n) (sym (sum_by-cons (bits_of_id id) run rest))
        ∙ sym (sum_by-append (bits_of_id id) passed (run ∷ rest)) ∙ ap (λ (l : List ZoneRun). sum_by (bits_of_id id) (passed ++ l)) (sym e) ∙ ap (sum_by (bits_of_id id)) so_far ∙ all_bits m id facts.zones in
        let mine : share id run.1.kind run.1.len ≡ run.1.len = ap (λ (q : RunKind). share id q run.1.len) k ∙ ap (λ (b : Bool). cond b run.1.len 0) (eq-eqb id id refl) in
        let few : (row_of rows id).bits ≤ sum_by (bits_of_id id) passed = within id (counts.bits id) in
        omega (arith, all, mine, few, bits_high m id is, ap (λ (h : Geometry). h.zones) same)
      where
        within : (id : ℕ) → (id < length rows → (row_of rows id).bits ≡ sum_by (bits_of_id id) passed) → (row_of rows id).bits ≤ sum_by (bits_of_id id) passed
        within id is = elim (cases_lt id (length rows)) [
          | inl low ↦ omega (arith, is low)
          | inr past ↦ omega (arith, ap (λ (r : IdTally). r.bits) (get_or_past rows id no_row (omega arith)))
        ]

-- the runs of a zone are those of all with its number
all_there : (m : Map) (id y : ℕ) → y < m.geometry.zones → Covers id (Passed (all_runs m) y) (RunsOf m y)
all_there m id y low = λ run c is. (run, (contains_placed y (runs_of m y) run (zone_in m (zone_numbers m.geometry) (y, run) c).1, is, omega arith))

all_back : (m : Map) (id y : ℕ) → y < m.geometry.zones → Covers id (RunsOf m y) (Passed (all_runs m) y)
all_back m id y low = λ run c is. (
  run,
  (in_zone m (zone_numbers m.geometry) (y, run) (in_range 0 m.geometry.zones y (omega arith) (omega arith)) (placed_contains y (runs_of m y) run c), is, omega arith),
)

pub all_counted : (m : Map) (passed left : List ZoneRun) (rows : List IdTally) → IsNewMap m → left ≡ [] → passed ++ left ≡ all_runs m → CountsRuns m passed rows → IsTally m rows
all_counted m passed left rows is none so_far counts =
    let facts = geometry_facts m.geometry is.of_record in
    let all : passed ≡ all_runs m = sym (append-nil passed) ∙ ap (λ (l : List ZoneRun). passed ++ l) (sym none) ∙ so_far in
    λ id low.
    fits_row m id (row_of rows id) (counts.bits id low ∙ ap (sum_by (bits_of_id id)) all ∙ all_bits m id facts.zones)
    (fits_kept m.geometry id (Passed (all_runs m)) (RunsOf m) (row_of rows id) (all_there m id) (all_back m id)
    (λ y low'. spans_of id (Passed (all_runs m) y) (RunsOf m y) (λ run c. contains_placed y (runs_of m y) run (zone_in m (zone_numbers m.geometry) (y, run) c).1))
    (subst (λ (l : List ZoneRun). Fits m.geometry id (Passed l) (row_of rows id)) all (counts.fits id low)))
