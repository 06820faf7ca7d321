-- Zones of a rising list that change one after another.
use Rattle.std.proofs.Common.{◌≡◌, ◌<◌, inl, inr, ℕ, zero, suc, ◌+◌, Bool, true, false, cond, List, [], ◌∷◌, length, take, get_or, refl, sym, ap, ◌∙◌, arith}
use Rattle.std.specs.Prelude.{◌==◌, ◌||◌, Contains}
use Rattle.std.specs.List.Sorted.{IsStrictlyIncreasing}
use Rattle.std.proofs.lemmas.Bool.{cases_eq, cases_lt, eq-eqb, ne_eqb}
use Rattle.std.proofs.lemmas.List.{get_or-take, length-take, take_more}
use Rattle.std.proofs.lemmas.List.Folds.{list_any-append}
use Rattle.fc_zone.specs.declared.Run.{Run}
use Rattle.fc_newmap.specs.Edits.{IsEdit}
use Rattle.fc_newmap.specs.Map.{Map, runs_of}
use Rattle.fc_newmap.specs.NewMap.{IsNewMap}
use Rattle.fc_newmap.proofs.ComposeLemmas.{edits_none, edits_then, runs_other}
use Rattle.fc_compact.specs.Joins.{EditsListed, changed_runs, is_listed}

-- each is above those before it
earlier : (zones : List ℕ) (j i : ℕ) → IsStrictlyIncreasing zones → j < i → i < length zones → get_or zones j 0 < get_or zones i 0
earlier zones j zero rising low lt = absurd (omega arith)
earlier zones j (suc i) rising low lt = elim (cases_lt j i) [
  | inl less ↦ (
      let before = earlier zones j i rising less (omega arith) in
      let step = rising i (omega arith) in
      let e : get_or zones (i + 1) 0 ≡ get_or zones (suc i) 0 = ap (λ (k : ℕ). get_or zones k 0) (let f : i + 1 ≡ suc i = omega arith in f) in
      omega (arith, before, step, e))
  | inr more ↦ (
      let same : j ≡ i = omega arith in
      let step = rising i (omega arith) in
      let e : get_or zones (i + 1) 0 ≡ get_or zones (suc i) 0 = ap (λ (k : ℕ). get_or zones k 0) (let f : i + 1 ≡ suc i = omega arith in f) in
      omega (arith, step, e, ap (λ (k : ℕ). get_or zones k 0) same))
]

none_listed : (xs : List ℕ) (y : ℕ) → ((j : ℕ) → j < length xs → get_or xs j 0 ≡ y → ⊥) → is_listed xs y ≡ false
none_listed [] y never = refl
none_listed (x ∷ xs) y never =
    ap (λ b. b || is_listed xs y) (ne_eqb x y (never 0 (omega arith))) ∙ none_listed xs y (λ j lt. never (suc j) (omega arith))

not_yet : (zones : List ℕ) (i : ℕ) → IsStrictlyIncreasing zones → i < length zones → is_listed (take i zones) (get_or zones i 0) ≡ false
not_yet zones i rising lt =
    none_listed (take i zones) (get_or zones i 0)
    (λ j low e.
    let below : j < i = omega (arith, low, length-take i zones) in
    omega (arith, earlier zones j i rising below lt, e, get_or-take i zones j 0 below))

pub is_in_list : (zones : List ℕ) (i : ℕ) → i < length zones → is_listed zones (get_or zones i 0) ≡ true
is_in_list [] i lt = absurd (omega arith)
is_in_list (x ∷ zones) zero lt = ap (λ b. b || is_listed zones x) (eq-eqb x x refl)
is_in_list (x ∷ zones) (suc i) lt = ap (λ b. (x == get_or zones i 0) || b) (is_in_list zones i (omega arith)) ∙ or_true (x == get_or zones i 0)
  where
    or_true : (b : Bool) → (b || true) ≡ true
    or_true true = refl
    or_true false = refl

module _ (m n o : Map) (zones : List ℕ) (i : ℕ) (lt : i < length zones) (edit : IsEdit n o (get_or zones i 0)) where
  abbrev z : ℕ
  z = get_or zones i 0

  pub listed_edits : EditsListed m n zones → EditsListed m o zones
  listed_edits was = record {
    edits = edits_then m n o z was.edits edit;
    others = λ y out. edit.others y (λ same. (let t = is_in_list zones i lt in let u = ap (is_listed zones) same ∙ t in cc)) ∙ was.others y out;
  }

  pub listed_more : (f : List Run → List Run) → IsStrictlyIncreasing zones → runs_of o z ≡ f (runs_of n z) → ((y : ℕ) → runs_of n y ≡ changed_runs f (take i zones) y (runs_of m y))
      → (y : ℕ) → runs_of o y ≡ changed_runs f (take (i + 1) zones) y (runs_of m y)
  listed_more f rising here was y =
      let more : is_listed (take (i + 1) zones) y ≡ (is_listed (take i zones) y || (z == y)) =
      ap (λ (xs : List ℕ). is_listed xs y) (take_more zones i 0 lt) ∙ list_any-append (λ x. x == y) (take i zones) (z ∷ []) ∙ ap (λ b. is_listed (take i zones) y || b) (or_false (z == y)) in
      elim (cases_eq y z) [
        | inl same ↦ (
            let none : is_listed (take i zones) y ≡ false = ap (is_listed (take i zones)) same ∙ not_yet zones i rising lt in
            let now : is_listed (take (i + 1) zones) y ≡ true = more ∙ ap (λ b. b || (z == y)) none ∙ eq-eqb z y (sym same) in
            ap (runs_of o) same ∙ here ∙ ap f (ap (runs_of n) (sym same) ∙ was y ∙ ap (λ b. cond b (f (runs_of m y)) (runs_of m y)) none)
            ∙ sym (ap (λ b. cond b (f (runs_of m y)) (runs_of m y)) now))
        | inr other ↦ (
            let now : is_listed (take (i + 1) zones) y ≡ is_listed (take i zones) y = more ∙ ap (λ b. is_listed (take i zones) y || b) (ne_eqb z y (λ e. other (sym e))) ∙ or_false (is_listed (take i zones) y) in
            runs_other n o z y edit other ∙ was y ∙ sym (ap (λ b. cond b (f (runs_of m y)) (runs_of m y)) now))
      ]
    where
      or_false : (b : Bool) → (b || false) ≡ b
      or_false true = refl
      or_false false = refl

pub listed_none : (m : Map) (zones : List ℕ) → IsNewMap m → EditsListed m m zones
listed_none m zones is = record { edits = edits_none m is; others = λ y out. refl }

-- what a list doesn't contain isn't listed
pub unlisted : (xs : List ℕ) (y : ℕ) → (Contains xs y → ⊥) → is_listed xs y ≡ false
unlisted [] y out = refl
unlisted (x ∷ xs) y out = ap (λ b. b || is_listed xs y) (ne_eqb x y (λ e. out (0, omega arith, e))) ∙ unlisted xs y (λ c. out (suc c.0, (let l = c.1 in omega arith), c.2))
