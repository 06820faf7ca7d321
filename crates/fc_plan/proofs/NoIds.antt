-- In a zone that has no run of the identifiers no run goes back.
use Rattle.std.proofs.Common.{◌≡◌, ◌<◌, ◌+◌, ◌==◌, ℕ, suc, Bool, true, false, cond, List, [], ◌∷◌, length, get_or, refl, sym, ap, ap₂, ◌∙◌, inl, inr, arith, eq-eqb}
use Rattle.std.specs.Prelude.{filter, ◌||◌, ◌&&◌, is_none, not}
use Rattle.std.specs.List.{find, list_any}
use Rattle.std.proofs.lemmas.Bool.{cases_eq, ne_eqb, or_parts as or_none}
use Rattle.fc_zone.specs.declared.Run.{Run}
use Rattle.fc_zone.specs.declared.RunKind.{RunKind}
use Rattle.fc_zone.specs.declared.RunKind.TheVariants.{Hole, Id}
use Rattle.fc_newmap.specs.Map.{Map, ZoneRun, has_id, runs_of}
use Rattle.fc_newmap.specs.RunsLaw.{placed}
use Rattle.fc_image.specs.effects.Placed.{stands_at}
use Rattle.fc_image.specs.effects.Steady.{has_id_that, holes_with}
use Rattle.fc_plan.specs.Giving.{IsGivenIn, as_spaces, has_run_of, is_given, is_one_of, spaces_in, stays}

turned : (k id : ℕ) → (k == id) ≡ false → (id == k) ≡ false
turned k id other = ne_eqb id k (λ e. (let same = eq-eqb k id (sym e) in absurd (cc)))

is_none_of : (ids : List ℕ) (k : ℕ) → ((i : ℕ) → i < length ids → (k == get_or ids i 0) ≡ false) → is_one_of ids k ≡ false
is_none_of [] k none = refl
is_none_of (id ∷ ids) k none = ap₂ (λ (a b : Bool). a || b) (turned k id (none 0 (omega arith))) (is_none_of ids k (λ i low. none (suc i) (omega arith)))

kind_of_none : (ids : List ℕ) (kind : RunKind) → ((i : ℕ) → i < length ids → has_id (get_or ids i 0) kind ≡ false) → has_id_that (is_one_of ids) kind ≡ false
kind_of_none ids Hole none = refl
kind_of_none ids (Id k) none = is_none_of ids k none

-- where none of them has one, there is no run of them
pub no_run_of : (ids : List ℕ) (runs : List Run) → ((i : ℕ) → i < length ids → list_any (λ run. has_id (get_or ids i 0) run.kind) runs ≡ false) → has_run_of ids runs ≡ false
no_run_of ids [] none = refl
no_run_of ids (run ∷ runs) none =
    ap₂ (λ (a b : Bool). a || b)
    (kind_of_none ids run.kind (λ i low. (or_none (has_id (get_or ids i 0) run.kind) (list_any (λ r. has_id (get_or ids i 0) r.kind) runs) (none i low)).0))
    (no_run_of ids runs (λ i low. (or_none (has_id (get_or ids i 0) run.kind) (list_any (λ r. has_id (get_or ids i 0) r.kind) runs) (none i low)).1))

pub none_so_far : (ids : List ℕ) (runs : List Run) (i : ℕ) → ((j : ℕ) → j < i → list_any (λ run. has_id (get_or ids j 0) run.kind) runs ≡ false)
    → list_any (λ run. has_id (get_or ids i 0) run.kind) runs ≡ false → (j : ℕ) → j < i + 1 → list_any (λ run. has_id (get_or ids j 0) run.kind) runs ≡ false
none_so_far ids runs i before here j low = elim (cases_eq j i) [
  | inl same ↦ ap (λ (k : ℕ). list_any (λ run. has_id (get_or ids k 0) run.kind) runs) same ∙ here
  | inr other ↦ before j (omega arith)
]

-- there none goes back, and all stay
module _ (ids : List ℕ) (kept : List ZoneRun) (z : ℕ) where
  none_goes : (run : Run) → has_id_that (is_one_of ids) run.kind ≡ false → is_given ids kept (z, run) ≡ false
  none_goes run none = ap (λ (b : Bool). b && is_none (find (stands_at (z, run)) kept)) none

  pub none_given_in : (runs : List Run) → has_run_of ids runs ≡ false → filter (is_given ids kept) (placed z runs) ≡ []
  none_given_in [] none = refl
  none_given_in (run ∷ runs) none =
      let r = or_none (has_id_that (is_one_of ids) run.kind) (has_run_of ids runs) none in
      ap (λ (b : Bool). cond b ((z, run) ∷ filter (is_given ids kept) (placed z runs)) (filter (is_given ids kept) (placed z runs))) (none_goes run r.0) ∙ none_given_in runs r.1

  and_stays : (a g : Bool) → g ≡ false → a ≡ (a && not g)
  and_stays true g e = sym (ap not e)
  and_stays false g e = refl

  pub all_stay_in : (id : ℕ) (runs : List Run) → has_run_of ids runs ≡ false → filter (λ p. has_id id p.1.kind) (placed z runs) ≡ filter (stays ids kept id) (placed z runs)
  all_stay_in id [] none = refl
  all_stay_in id (run ∷ runs) none =
      let r = or_none (has_id_that (is_one_of ids) run.kind) (has_run_of ids runs) none in
      ap₂ (λ (b : Bool) (rest : List ZoneRun). cond b ((z, run) ∷ rest) rest) (and_stays (has_id id run.kind) (is_given ids kept (z, run)) (none_goes run r.0)) (all_stay_in id runs r.1)

  pub none_given_zone : (m : Map) → has_run_of ids (runs_of m z) ≡ false → IsGivenIn ids kept m m z
  none_given_zone m none = record {
    holes = sym (ap (λ (runs : List ZoneRun). holes_with (spaces_in (runs_of m z)) (as_spaces runs)) (none_given_in (runs_of m z) none));
    of_ids = λ id. all_stay_in id (runs_of m z) none;
  }
