-- Which zones change, as a list.
use Rattle.std.proofs.Common.{◌≡◌, ◌<◌, ◌≤◌, ℕ, zero, suc, ◌+◌, ◌-◌, Bool, true, false, cond, List, [], ◌∷◌, ◌++◌, length, Contains, inl, inr, refl, sym, ap, subst, ◌∙◌, arith, append_assoc, ◌==◌, eq-eqb, eqb, get_or, Option, Some, None}
use Rattle.std.specs.Prelude.{filter, ◌||◌, OnOk, Result, Ok, Err}
use Rattle.std.specs.List.{list_any, range_with_len}
use Rattle.std.specs.Option.{IfSome, option_eq}
use Rattle.std.proofs.lemmas.List.{append-nil}
use Rattle.std.proofs.lemmas.List.FromFn.{get_or-range_with_len, length-range_with_len}
use Rattle.std.proofs.lemmas.List.Elements.{Contains-append_right}
use Rattle.fc_zone.specs.declared.Run.{Run}
use Rattle.fc_zone.specs.declared.RunKind.{RunKind}
use Rattle.fc_zone.specs.declared.RunKind.TheVariants.{Hole, Id}
use Rattle.fc_newmap.specs.Map.{ZoneRun, has_id}
use Rattle.fc_newmap.specs.RunsLaw.{placed}
use Rattle.fc_image.specs.effects.Steady.{has_id_that}
use Rattle.fc_plan.specs.Giving.{has_run_of, is_one_of}
use Rattle.std.proofs.lemmas.Bool.{cases_Bool as either_test, eqb-true, or_left, or_right}

-- ---- the runs of a zone

abbrev pub goes : List ℕ → ZoneRun → Bool
goes ids p = has_id_that (is_one_of ids) p.1.kind

pub any_placed : (ids : List ℕ) (z : ℕ) (runs : List Run) → list_any (goes ids) (placed z runs ++ []) ≡ has_run_of ids runs
any_placed ids z [] = refl
any_placed ids z (run ∷ runs) = ap (λ (b : Bool). has_id_that (is_one_of ids) run.kind || b) (any_placed ids z runs)

is_one_at : (ids : List ℕ) (k i : ℕ) → i < length ids → k ≡ get_or ids i 0 → is_one_of ids k ≡ true
is_one_at [] k i low e = absurd (omega arith)
is_one_at (id ∷ ids) k zero low e = or_left (id == k) (is_one_of ids k) (eq-eqb id k (sym e))
is_one_at (id ∷ ids) k (suc i) low e = or_right (id == k) (is_one_of ids k) (is_one_at ids k i (omega arith) e)

kind_at : (ids : List ℕ) (kind : RunKind) (i : ℕ) → i < length ids → has_id (get_or ids i 0) kind ≡ true → has_id_that (is_one_of ids) kind ≡ true
kind_at ids Hole i low e = absurd (cc)
kind_at ids (Id k) i low e = is_one_at ids k i low (eqb-true k (get_or ids i 0) e)

-- one of the identifiers has a run there
pub run_of_one : (ids : List ℕ) (runs : List Run) (i : ℕ) → i < length ids → list_any (λ run. has_id (get_or ids i 0) run.kind) runs ≡ true → has_run_of ids runs ≡ true
run_of_one ids [] i low e = absurd (cc)
run_of_one ids (run ∷ runs) i low e = elim (either_test (has_id (get_or ids i 0) run.kind)) [
  | inl is ↦ or_left (has_id_that (is_one_of ids) run.kind) (has_run_of ids runs) (kind_at ids run.kind i low is)
  | inr none ↦ or_right (has_id_that (is_one_of ids) run.kind) (has_run_of ids runs)
      (run_of_one ids runs i low (sym (ap (λ (b : Bool). b || list_any (λ r. has_id (get_or ids i 0) r.kind) runs) none) ∙ e))
]

-- what holds of an answer holds of the zone that it is
pub told_zone : (P : ℕ → Type 0) (only : Option ℕ) (z : ℕ) → IfSome only P → true ≡ option_eq eqb only (Some z) → P z
told_zone P None z none e = absurd (cc)
told_zone P (Some y) z is e = subst P (eqb-true y z (sym e)) is

-- ---- a row of numbers

range_first : (a n k : ℕ) → n ≡ k + 1 → range_with_len a n ≡ a ∷ range_with_len (a + 1) k
range_first a zero k e = absurd (omega arith)
range_first a (suc zero) zero e = refl
range_first a (suc zero) (suc k) e = absurd (omega arith)
range_first a (suc (suc n)) zero e = absurd (omega arith)
range_first a (suc (suc n)) (suc k) e = ap (λ (j : ℕ). a ∷ range_with_len (a + 1) j) (let h : suc n ≡ suc k = omega arith in h)

-- the numbers so far that pass a test
pub record ArePassed (t : ℕ → Bool) (n at : ℕ) (old now : List ℕ) : Type 0 where
  pub more : List ℕ
  pub is : now ≡ old ++ more
  pub rest : more ++ filter t (range_with_len at (n - at)) ≡ filter t (range_with_len 0 n)

pub one_passed : (t : ℕ → Bool) (n at : ℕ) (old now then : List ℕ) → ArePassed t n at old now → at < n → t at ≡ true → then ≡ now ++ at ∷ [] → ArePassed t n (at + 1) old then
one_passed t n at old now then so_far low test is = record {
  more = so_far.more ++ at ∷ [];
  is = is ∙ ap (λ (xs : List ℕ). xs ++ at ∷ []) so_far.is ∙ append_assoc old so_far.more (at ∷ []);
  rest = append_assoc so_far.more (at ∷ []) (filter t (range_with_len (at + 1) (n - (at + 1))))
      ∙ ap (λ (xs : List ℕ). so_far.more ++ xs) (sym (ap (filter t) (range_first at (n - at) (n - (at + 1)) (omega arith)) ∙ ap (λ (b : Bool). cond b (at ∷ filter t (range_with_len (at + 1) (n - (at + 1)))) (filter t (range_with_len (at + 1) (n - (at + 1))))) test))
      ∙ so_far.rest;
}

pub one_missed : (t : ℕ → Bool) (n at : ℕ) (old now : List ℕ) → ArePassed t n at old now → at < n → t at ≡ false → ArePassed t n (at + 1) old now
one_missed t n at old now so_far low test = record {
  more = so_far.more;
  is = so_far.is;
  rest = ap (λ (xs : List ℕ). so_far.more ++ xs) (sym (ap (filter t) (range_first at (n - at) (n - (at + 1)) (omega arith)) ∙ ap (λ (b : Bool). cond b (at ∷ filter t (range_with_len (at + 1) (n - (at + 1)))) (filter t (range_with_len (at + 1) (n - (at + 1))))) test))
      ∙ so_far.rest;
}

pub step_passed : (t : ℕ → Bool) (n at : ℕ) (old now then : List ℕ) (b : Bool) → ArePassed t n at old now → at < n → b ≡ t at → then ≡ cond b (now ++ at ∷ []) now → ArePassed t n (at + 1) old then
step_passed t n at old now then true so_far low test is = one_passed t n at old now then so_far low (sym test) is
step_passed t n at old now then false so_far low test is = subst (λ (xs : List ℕ). ArePassed t n (at + 1) old xs) (sym is) (one_missed t n at old now so_far low (sym test))

pub passed_none : (t : ℕ → Bool) (n : ℕ) (old : List ℕ) → ArePassed t n 0 old old
passed_none t n old = record {
  more = [];
  is = sym (append-nil old);
  rest = ap (λ (k : ℕ). filter t (range_with_len 0 k)) (let e : n - 0 ≡ n = omega arith in e);
}

-- numbers that fail the test are passed over
pub none_passed : (t : ℕ → Bool) (n at to : ℕ) (old now : List ℕ) → ArePassed t n at old now → at ≤ to → to ≤ n → ((y : ℕ) → at ≤ y → y < to → t y ≡ false) → ArePassed t n to old now
none_passed t n at to old now so_far on low none = go (to - at) at so_far none (omega arith)
  where
    go : (k from : ℕ) → ArePassed t n from old now → ((y : ℕ) → from ≤ y → y < to → t y ≡ false) → from + k ≡ to → ArePassed t n to old now
    go zero from is none e = subst (λ (x : ℕ). ArePassed t n x old now) (let same : from ≡ to = omega arith in same) is
    go (suc k) from is none e = go k (from + 1) (one_missed t n from old now is (omega arith) (none from (omega arith) (omega arith))) (λ y above less. none y (omega arith) less) (omega arith)

pub on_ok : {A E : Type 0} (P Q : Type 0) (r : Result A E) → (P → Q) → OnOk r P → OnOk r Q
on_ok P Q (Ok x) f h = f h
on_ok P Q (Err e) f h = tt

-- what is not listed fails the test
in_filter_of : (t : ℕ → Bool) (xs : List ℕ) (x : ℕ) → Contains xs x → t x ≡ true → Contains (filter t xs) x
in_filter_of t [] x (k, h, e) test = absurd (omega arith)
in_filter_of t (y ∷ xs) x (zero, h, e) test =
    (let same : y ≡ x = e in
    let here : t y ≡ true = ap t same ∙ test in
    let whole : filter t (y ∷ xs) ≡ y ∷ filter t xs = ap (λ (b : Bool). cond b (y ∷ filter t xs) (filter t xs)) here in
    rw whole (0, omega arith, same))
in_filter_of t (y ∷ xs) x (suc k, h, e) test = by (t y) (in_filter_of t xs x (k, omega arith, e) test)
  where
    by : (b : Bool) → Contains (filter t xs) x → Contains (cond b (y ∷ filter t xs) (filter t xs)) x
    by true c = (suc c.0, (let low = c.1 in omega arith), c.2)
    by false c = c

pub not_listed : (t : ℕ → Bool) (n z : ℕ) (old now : List ℕ) → now ≡ old ++ filter t (range_with_len 0 n) → z < n → (Contains now z → ⊥) → t z ≡ false
not_listed t n z old now is low none = elim (either_test (t z)) [
  | inl listed ↦ absurd (none (rw is (Contains-append_right old (filter t (range_with_len 0 n)) z (in_filter_of t (range_with_len 0 n) z (z, in_row, get_or-range_with_len 0 n z z low ∙ (let e : 0 + z ≡ z = omega arith in e)) listed))))
  | inr other ↦ other
]
  where
    in_row : z < length (range_with_len 0 n)
    in_row = let h = length-range_with_len 0 n in omega arith
