-- How many bits the runs of some identifiers have.
use Rattle.std.proofs.Common.{◌≡◌, ◌<◌, ◌≤◌, ◌==◌, ℕ, suc, ◌+◌, ◌-◌, Bool, true, false, cond, Option, Some, None, List, [], ◌∷◌, ◌++◌, sum_by, refl, sym, ap, ap₂, ◌∙◌, inl, inr, arith, eq-eqb, length, take, get_or}
use Rattle.std.specs.Prelude.{◌||◌, IfSome}
use Rattle.std.specs.Option.{unwrap_or}
use Rattle.std.proofs.Math.Seq.{take-suc}
use Rattle.std.proofs.lemmas.Bool.{cases_eq, cases_lt, ne_eqb}
use Rattle.std.proofs.lemmas.List.Folds.{list_any-append}
use Rattle.std.proofs.lemmas.List.Sums.{sum_by-append, sum_by-cons}
use Rattle.fc_bytes.specs.Bits.{bits}
use Rattle.fc_record.specs.Record.{first_bit, end_bit}
use Rattle.fc_zone.specs.declared.Run.{Run}
use Rattle.fc_zone.specs.declared.RunKind.{RunKind}
use Rattle.fc_zone.specs.declared.RunKind.TheVariants.{Hole, Id}
use Rattle.fc_zone.specs.declared.ZoneShape.{ZoneShape}
use Rattle.fc_zone.specs.declared.cursor.Cursor.{Cursor}
use Rattle.fc_zone.specs.Cursor.{StandsBetween}
use Rattle.fc_zone.proofs.CursorLemmas.{Spells-sum}
use Rattle.fc_newmap.specs.Map.{Map, bits_in, has_id, is_hole, runs_of, sector_of, shape}
use Rattle.fc_newmap.specs.NewMap.{IsNewMap}
use Rattle.fc_newmap.specs.RunsLaw.{placed}
use Rattle.fc_newmap.specs.Tally.{id_runs_in}
use Rattle.fc_newmap.proofs.HeldLemmas.{end_within, geometry_facts, sector_high}
use Rattle.fc_newmap.proofs.BitSumLemmas.{bits_of_id, of_runs, part, share}
use Rattle.fc_image.specs.effects.Steady.{has_id_that}
use Rattle.fc_plan.specs.Beginnings.{bits_if_of, bits_of_ids}
use Rattle.fc_plan.specs.Giving.{behind_next, has_run_of, is_one_of, rest_passed}
use Rattle.fc_plan.proofs.Spaces.{Lie, lie_behind, spelled_lie}

-- ---- one identifier more

same_test : (a b : ℕ) → (a == b) ≡ (b == a)
same_test a b = elim (cases_eq a b) [
  | inl e ↦ eq-eqb a b e ∙ sym (eq-eqb b a (sym e))
  | inr ne ↦ ne_eqb a b ne ∙ sym (ne_eqb b a (λ e. ne (sym e)))
]

pub or_false : (b : Bool) → (b || false) ≡ b
or_false true = refl
or_false false = refl

kind_more : (ids : List ℕ) (id : ℕ) (kind : RunKind) → has_id_that (is_one_of (ids ++ id ∷ [])) kind ≡ (has_id_that (is_one_of ids) kind || has_id id kind)
kind_more ids id Hole = refl
kind_more ids id (Id k) =
    list_any-append (λ j. j == k) ids (id ∷ []) ∙ ap (λ (b : Bool). is_one_of ids k || b) (or_false (id == k) ∙ same_test id k)

either_bits : (a b : Bool) (n : ℕ) → cond (a || b) n 0 ≤ cond a n 0 + cond b n 0
either_bits true b n = omega arith
either_bits false b n = omega arith

runs_more : (ids : List ℕ) (id z : ℕ) (runs : List Run) → bits_of_ids (ids ++ id ∷ []) runs ≤ bits_of_ids ids runs + part id z runs
runs_more ids id z [] = omega arith
runs_more ids id z (run ∷ runs) =
    let here : bits_if_of (ids ++ id ∷ []) run ≤ bits_if_of ids run + share id run.kind run.len =
    rw (kind_more ids id run.kind) (either_bits (has_id_that (is_one_of ids) run.kind) (has_id id run.kind) run.len) in
    let all = sum_by-cons (bits_if_of (ids ++ id ∷ [])) run runs in
    let old = sum_by-cons (bits_if_of ids) run runs in
    let own = sum_by-cons (bits_of_id id) (z, run) (placed z runs) in
    omega (arith, runs_more ids id z runs)

-- ---- how many there can be

pub if_of_low : (b : Bool) (n : ℕ) → cond b n 0 ≤ n
if_of_low true n = omega arith
if_of_low false n = omega arith

all_low : (ids : List ℕ) (runs : List Run) → bits_of_ids ids runs ≤ sum_by (λ (run : Run). run.len) runs
all_low ids [] = omega arith
all_low ids (run ∷ runs) =
    let some = sum_by-cons (bits_if_of ids) run runs in
    let all = sum_by-cons (λ (r : Run). r.len) run runs in
    let one = if_of_low (has_id_that (is_one_of ids) run.kind) run.len in
    omega (arith, all_low ids runs)

part_low : (id z : ℕ) (runs : List Run) → part id z runs ≤ sum_by (λ (run : Run). run.len) runs
part_low id z [] = omega arith
part_low id z (run ∷ runs) =
    let some = sum_by-cons (bits_of_id id) (z, run) (placed z runs) in
    let all = sum_by-cons (λ (r : Run). r.len) run runs in
    let one = if_of_low (has_id id run.kind) run.len in
    omega (arith, part_low id z runs)

zone_bits : (m : Map) (z : ℕ) → IsNewMap m → z < m.geometry.zones → sum_by (λ (run : Run). run.len) (runs_of m z) ≤ 8192
zone_bits m z is low =
    let zone = is.right z low in
    let all = Spells-sum (shape m.geometry z) (bits (sector_of m z)) (runs_of m z) (first_bit z) (end_bit m.geometry z) zone.spelled in
    let within = end_within m.geometry z is.of_record low in
    let high = sector_high m.geometry (geometry_facts m.geometry is.of_record) in
    omega (arith, all, within, high)

-- ---- an identifier's bits in a zone

part_high : (m : Map) (id z bits : ℕ) → IsNewMap m → z < m.geometry.zones → 8192 ≤ bits → part id z (runs_of m z) ≤ bits
part_high m id z bits is low enough = omega (arith, part_low id z (runs_of m z), zone_bits m z is low)

pub own_bits : (m : Map) (id z : ℕ) (told : Option ℕ) → IsNewMap m → z < m.geometry.zones → IfSome told (λ bits. bits_in (id_runs_in m id z) ≤ bits) → part id z (runs_of m z) ≤ unwrap_or told 18446744073709551615
own_bits m id z None is low e = part_high m id z 18446744073709551615 is low (omega arith)
own_bits m id z (Some bits) is low enough = omega (arith, of_runs id (placed z (runs_of m z)), enough)

pub no_bits : (runs : List Run) → bits_of_ids [] runs ≤ 0
no_bits [] = omega arith
no_bits (run ∷ runs) =
    let one = none_of run.kind run.len in
    omega (arith, sum_by-cons (bits_if_of []) run runs, no_bits runs)
  where
    none_of : (kind : RunKind) (n : ℕ) → cond (has_id_that (is_one_of []) kind) n 0 ≤ 0
    none_of Hole n = omega arith
    none_of (Id id) n = omega arith

-- the bits of one identifier more, as far as a number goes
pub bits_more : (m : Map) (ids : List ℕ) (i z bits own sum : ℕ) → IsNewMap m → z < m.geometry.zones → i < length ids → bits_of_ids (take i ids) (runs_of m z) ≤ bits → part (get_or ids i 0) z (runs_of m z) ≤ own
    → (sum < bits + own → 8192 ≤ sum) → bits_of_ids (take (i + 1) ids) (runs_of m z) ≤ sum
bits_more m ids i z bits own sum is low in' before one enough =
    let next : take (i + 1) ids ≡ take i ids ++ get_or ids i 0 ∷ [] = ap (λ (n : ℕ). take n ids) (let e : i + 1 ≡ suc i = omega arith in e) ∙ take-suc ids i 0 in' in
    let more = runs_more (take i ids) (get_or ids i 0) z (runs_of m z) in
    let all = all_low (take i ids ++ get_or ids i 0 ∷ []) (runs_of m z) in
    let high = zone_bits m z is low in
    rw next (at_most (bits_of_ids (take i ids ++ get_or ids i 0 ∷ []) (runs_of m z)) (bits + own) sum (omega (arith, more, before, one)) (omega (arith, all, high)) enough)
  where
    at_most : (n most sum : ℕ) → n ≤ most → n ≤ 8192 → (sum < most → 8192 ≤ sum) → n ≤ sum
    at_most n most sum low high enough = elim (cases_lt sum most) [
      | inl less ↦ omega (arith, enough less)
      | inr more ↦ omega arith
    ]

-- ---- on the way

-- those of some of the runs
pub bits_behind : (ids : List ℕ) (runs done left : List Run) (bits : ℕ) → runs ≡ done ++ left → bits_of_ids ids runs ≤ bits → bits_of_ids ids left ≤ bits
bits_behind ids runs done left bits cut low =
    let all = ap (bits_of_ids ids) cut ∙ sum_by-append (bits_if_of ids) done left in
    omega arith

-- a run is passed
pub bits_here : (ids : List ℕ) (run : Run) (rest : List Run) (bits : ℕ) → bits_of_ids ids (run ∷ rest) ≤ bits → bits_if_of ids run ≤ bits
bits_here ids run rest bits low = omega (arith, sum_by-cons (bits_if_of ids) run rest)

next_bits : (ids : List ℕ) (rest : List Run) → bits_of_ids ids (behind_next rest) ≤ bits_of_ids ids rest
next_bits ids [] = omega arith
next_bits ids (next ∷ rest) = by (is_hole next.kind)
  where
    by : (b : Bool) → bits_of_ids ids (cond b rest (next ∷ rest)) ≤ bits_of_ids ids (next ∷ rest)
    by true = omega (arith, sum_by-cons (bits_if_of ids) next rest)
    by false = omega arith

pub bits_on : (ids : List ℕ) (goes : Bool) (run : Run) (rest : List Run) (bits : ℕ) → bits_of_ids ids (run ∷ rest) ≤ bits → bits_of_ids ids (rest_passed goes rest) ≤ bits - bits_if_of ids run
bits_on ids true run rest bits low = omega (arith, sum_by-cons (bits_if_of ids) run rest, next_bits ids rest)
bits_on ids false run rest bits low = omega (arith, sum_by-cons (bits_if_of ids) run rest)

-- no bits are left, so no run of the identifiers is
none_left : (ids : List ℕ) (runs : List Run) (at : ℕ) → Lie at runs → bits_of_ids ids runs ≤ 0 → has_run_of ids runs ≡ false
none_left ids [] at lie none = refl
none_left ids (run ∷ runs) at lie none =
    let all = sum_by-cons (bits_if_of ids) run runs in
    let one : bits_if_of ids run ≤ 0 = omega arith in
    let rest : bits_of_ids ids runs ≤ 0 = omega arith in
    ap₂ (λ (a b : Bool). a || b) (by (has_id_that (is_one_of ids) run.kind) run.len lie.1 one) (none_left ids runs (at + run.len) lie.2 rest)
  where
    by : (b : Bool) (n : ℕ) → 0 < n → cond b n 0 ≤ 0 → b ≡ false
    by true n some low = absurd (omega arith)
    by false n some low = refl

pub none_ahead : (shape : ZoneShape) (s : List ℕ) (ids : List ℕ) (done ahead : List Run) (place : Cursor) (bits : ℕ) → StandsBetween shape s done ahead place → bits_of_ids ids ahead ≤ bits → bits ≤ 0 → has_run_of ids ahead ≡ false
none_ahead shape s ids done ahead place bits stands low none =
    let zone = stands.zone in
    let lie = lie_behind done ahead shape.first (spelled_lie shape _ (done ++ ahead) shape.first shape.end zone.spelled) in
    none_left ids ahead lie.0 lie.1 (omega arith)
