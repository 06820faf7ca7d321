-- Which identifiers have runs, and which of them have none.
use Rattle.std.proofs.Common.{◌≡◌, ◌<◌, ◌≤◌, ℕ, zero, suc, ◌+◌, ◌-◌, Bool, true, false, cond, Option, List, [], ◌∷◌, ◌==◌, length, get_or, refl, sym, ap, subst, ◌∙◌, arith, eq-eqb}
use Rattle.std.specs.Prelude.{Contains, Ok, Err, filter, is_some, not, slice_get}
use Rattle.std.specs.List.{range_with_len}
use Rattle.std.proofs.lemmas.Bool.{ne_eqb}
use Rattle.std.proofs.lemmas.List.{get_or_default}
use Rattle.std.proofs.lemmas.List.Folds.{list_any_at, list_any_none}
use Rattle.std.proofs.lemmas.List.Sums.{sum_by-cons}
use Rattle.fc_record.specs.Record.{end_bit, first_bit, id_limit}
use Rattle.fc_zone.specs.declared.Run.{Run}
use Rattle.fc_zone.specs.declared.ZoneShape.{ZoneShape}
use Rattle.fc_zone.specs.Zone.{Spells}
use Rattle.fc_newmap.specs.Ids.{unused_from}
use Rattle.fc_newmap.specs.Map.{Map, ZoneRun, all_runs, bits_in, has_id, id_runs, is_used, runs_of, shape, zone_numbers}
use Rattle.fc_newmap.specs.NewMap.{IsNewMap}
use Rattle.fc_newmap.specs.RunsLaw.{placed}
use Rattle.fc_newmap.proofs.HeldLemmas.{geometry_facts}
use Rattle.fc_newmap.proofs.PlaceLemmas.{contains_cases, contains_none, id_run_in, in_id_runs, range_in, zone_in}
use Rattle.fc_zone.proofs.ZoneLemmas.{Contains-head as contains_here}

-- ---- an identifier has runs

-- by its runs in the order of the search
pub used_first : (m : Map) (id : ℕ) (p : ZoneRun) (rest : List ZoneRun) → IsNewMap m → id_runs m id ≡ p ∷ rest → is_used m id ≡ true
used_first m id p rest is e =
    let facts = geometry_facts m.geometry is.of_record in
    let there = id_run_in m id p facts.zones (subst (λ (runs : List ZoneRun). Contains runs p) (sym e) (contains_here p rest)) in
    let c = there.0 in
    list_any_at (λ q. has_id id q.1.kind) (all_runs m) c.0 p c.1 (ap (λ (q : ZoneRun). has_id id q.1.kind) c.2 ∙ there.1)

pub used_none : (m : Map) (id : ℕ) → IsNewMap m → id_runs m id ≡ [] → is_used m id ≡ false
used_none m id is e = list_any_none (λ p. has_id id p.1.kind) (all_runs m) (λ k d low. by k d low (has_id id (get_or (all_runs m) k d).1.kind) refl)
  where
    by : (k : ℕ) (d : ZoneRun) → k < length (all_runs m) → (b : Bool) → has_id id (get_or (all_runs m) k d).1.kind ≡ b → b ≡ false
    by k d low true has =
        let facts = geometry_facts m.geometry is.of_record in
        let p = get_or (all_runs m) k d in
        let there = in_id_runs m id p facts.zones (k, low, get_or_default (all_runs m) k p d low) has in
        absurd (contains_none p (subst (λ (runs : List ZoneRun). Contains runs p) e there))
    by k d low false has = refl

pub used_by_first : (m : Map) (id : ℕ) (first : Option ZoneRun) → IsNewMap m → first ≡ slice_get (id_runs m id) 0 → is_some first ≡ is_used m id
used_by_first m id first is e = by (id_runs m id) refl
  where
    by : (runs : List ZoneRun) → id_runs m id ≡ runs → is_some first ≡ is_used m id
    by [] same = ap is_some (e ∙ ap (λ (runs : List ZoneRun). slice_get runs 0) same) ∙ sym (used_none m id is same)
    by (p ∷ rest) same = ap is_some (e ∙ ap (λ (runs : List ZoneRun). slice_get runs 0) same) ∙ sym (used_first m id p rest is same)

-- ---- by their bits

spelled_long : (z : ℕ) (shape : ZoneShape) (bs : List ℕ) (runs : List Run) (at end : ℕ) (p : ZoneRun) → Spells shape bs at runs end → Contains (placed z runs) p → 0 < p.1.len
spelled_long z shape bs [] at end p h c = absurd (contains_none p c)
spelled_long z shape bs (run ∷ runs) at end p h c = elim (contains_cases (z, run) (placed z runs) p c) [
  | Ok here ↦ (let long = h.1.long in subst (λ (q : ZoneRun). 0 < q.1.len) here (omega arith))
  | Err later ↦ spelled_long z shape bs runs (at + run.len) end p h.3 later
]

-- each run has a length
run_long : (m : Map) (p : ZoneRun) → IsNewMap m → Contains (all_runs m) p → 0 < p.1.len
run_long m p is c =
    let there = zone_in m (zone_numbers m.geometry) p c in
    let low = range_in 0 m.geometry.zones p.0 there.0 in
    let zone = is.right p.0 (omega (arith, low.1)) in
    spelled_long p.0 (shape m.geometry p.0) _ (runs_of m p.0) (first_bit p.0) (end_bit m.geometry p.0) p zone.spelled there.1

pub used_bits : (m : Map) (id bits : ℕ) → IsNewMap m → bits ≡ bits_in (id_runs m id) → not (bits == 0) ≡ is_used m id
used_bits m id bits is e = by (id_runs m id) refl
  where
    by : (runs : List ZoneRun) → id_runs m id ≡ runs → not (bits == 0) ≡ is_used m id
    by [] same =
        let none : bits ≡ 0 = e ∙ ap bits_in same in
        ap not (eq-eqb bits 0 none) ∙ sym (used_none m id is same)
    by (p ∷ rest) same =
        let facts = geometry_facts m.geometry is.of_record in
        let there = id_run_in m id p facts.zones (subst (λ (runs : List ZoneRun). Contains runs p) (sym same) (contains_here p rest)) in
        let long = run_long m p is there.0 in
        let some = e ∙ ap bits_in same ∙ sum_by-cons (λ (q : ZoneRun). q.1.len) p rest in
        ap not (ne_eqb bits 0 (λ none. omega (arith, none, some, long))) ∙ sym (used_first m id p rest is same)

-- ---- the next unused identifier

pub range_cons : (a n : ℕ) → range_with_len a (suc n) ≡ a ∷ range_with_len (a + 1) n
range_cons a zero = refl
range_cons a (suc n) = refl

abbrev pub is_unused : Map → ℕ → Bool
is_unused m id = not (is_used m id)

pub unused_step : (m : Map) (id : ℕ) → id < id_limit m.geometry → unused_from m id ≡ cond (is_unused m id) (id ∷ unused_from m (id + 1)) (unused_from m (id + 1))
unused_step m id in' =
    let more : id_limit m.geometry - id ≡ suc (id_limit m.geometry - (id + 1)) = omega arith in
    ap (λ (n : ℕ). filter (is_unused m) (range_with_len id n)) more ∙ ap (filter (is_unused m)) (range_cons id (id_limit m.geometry - (id + 1)))

pub unused_here : (m : Map) (id : ℕ) → id < id_limit m.geometry → is_used m id ≡ false → unused_from m id ≡ id ∷ unused_from m (id + 1)
unused_here m id in' e = unused_step m id in' ∙ ap (λ (b : Bool). cond (not b) (id ∷ unused_from m (id + 1)) (unused_from m (id + 1))) e

pub unused_later : (m : Map) (id : ℕ) → id < id_limit m.geometry → is_used m id ≡ true → unused_from m id ≡ unused_from m (id + 1)
unused_later m id in' e = unused_step m id in' ∙ ap (λ (b : Bool). cond (not b) (id ∷ unused_from m (id + 1)) (unused_from m (id + 1))) e

pub unused_none : (m : Map) (id : ℕ) → id_limit m.geometry ≤ id → unused_from m id ≡ []
unused_none m id past = ap (λ (n : ℕ). filter (is_unused m) (range_with_len id n)) (let e : id_limit m.geometry - id ≡ 0 = omega arith in e)
