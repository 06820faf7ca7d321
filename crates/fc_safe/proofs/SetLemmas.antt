-- Sets of numbers, as lists that rise.
use Rattle.std.proofs.Common.{◌≡◌, ◌<◌, ◌≤◌, ◌==◌, inl, inr, ℕ, zero, suc, true, false, List, [], ◌∷◌, length, get_or, refl, sym, ap, subst, ◌∙◌, arith, eq-eqb}
use Rattle.std.specs.Prelude.{AllPairs, Contains, Result, Ok, Err, eqb}
use Rattle.std.specs.List.{dedup}
use Rattle.std.specs.Ordering.{nat_cmp}
use Rattle.std.specs.Result.{MatchResult, is_ok}
use Rattle.std.specs.List.Sorted.{IsBinarySearchResult, IsPermutation, IsStrictlyIncreasing}
use Rattle.std.proofs.lemmas.Bool.{cases_order, eqb-true, or_cases, cases_Bool}
use Rattle.std.proofs.lemmas.List.Kept.{AllPairs-from_increasing, Contains-dedup_nat, Contains-from_dedup}
use Rattle.std.proofs.lemmas.List.Sorted.{Contains-permutation, IsPermutation-sym, searched}
use Rattle.fc_plan.specs.Giving.{is_one_of}
use Rattle.fc_safe.proofs.ListLemmas.{any_of, at_place, found_of, same_test}

pub one_of : (xs : List ℕ) (n : ℕ) → Contains xs n → is_one_of xs n ≡ true
one_of xs n at = any_of (λ (k : ℕ). k == n) xs n at (eq-eqb n n refl)

pub of_one : (xs : List ℕ) (n : ℕ) → is_one_of xs n ≡ true → Contains xs n
of_one xs n h = let r = found_of (λ (k : ℕ). k == n) xs h in subst (λ (k : ℕ). Contains xs k) (eqb-true r.0 n r.2) r.1

-- The same numbers are in both.
pub ones_same : (xs ys : List ℕ) (n : ℕ) → (Contains xs n → Contains ys n) → (Contains ys n → Contains xs n) → is_one_of xs n ≡ is_one_of ys n
ones_same xs ys n there back = same_test (is_one_of xs n) (is_one_of ys n) (λ h. one_of ys n (there (of_one xs n h))) (λ h. one_of xs n (back (of_one ys n h)))

-- ---- a set has one list

abbrev Rises : List ℕ → Type 0
Rises [] = Unit {0}
Rises (x ∷ xs) = ((y : ℕ) → is_one_of xs y ≡ true → x < y) × Rises xs

rises_of : (xs : List ℕ) → AllPairs (λ x y. x < y) xs → Rises xs
rises_of [] pairs = tt
rises_of (x ∷ xs) pairs = (
  λ y h. (let at = of_one xs y h in let less = pairs 0 (suc at.0) y (omega arith) (let low = at.1 in omega (arith, low)) in let here = at.2 in omega (arith, less, here)),
  rises_of xs (λ i j d lt low. pairs (suc i) (suc j) d (omega (arith, lt)) (omega (arith, low))),
)

one_first : (x : ℕ) (xs : List ℕ) → is_one_of (x ∷ xs) x ≡ true
one_first x xs = one_of (x ∷ xs) x (0, omega arith, refl)

-- a number of such a list is its first, or greater
not_less : (y : ℕ) (ys : List ℕ) (x : ℕ) → Rises (y ∷ ys) → x < y → is_one_of (y ∷ ys) x ≡ true → ⊥
not_less y ys x rises less h = elim (or_cases (y == x) (is_one_of ys x) h) [
  | inl here ↦ (let e = eqb-true y x here in omega (arith, e, less))
  | inr later ↦ (let more = rises.0 x later in omega (arith, more, less))
]

same_lists : (xs ys : List ℕ) → Rises xs → Rises ys → ((n : ℕ) → is_one_of xs n ≡ is_one_of ys n) → xs ≡ ys
same_lists [] [] a b same = refl
same_lists [] (y ∷ ys) a b same = absurd (let h = same y ∙ one_first y ys in cc)
same_lists (x ∷ xs) [] a b same = absurd (let h = sym (one_first x xs) ∙ same x in cc)
same_lists (x ∷ xs) (y ∷ ys) a b same = elim (cases_order x y) [
  | inl e ↦ joined e (same_lists xs ys a.1 b.1)
  | inr apart ↦ elim apart [
    | inl less ↦ absurd (not_less y ys x b less (sym (same x) ∙ one_first x xs))
    | inr more ↦ absurd (not_less x xs y a more (same y ∙ one_first y ys))
  ]
]
  where
    rest : (p q : ℕ) (ps qs : List ℕ) → p ≡ q → Rises (p ∷ ps) → ((n : ℕ) → is_one_of (p ∷ ps) n ≡ is_one_of (q ∷ qs) n) → (n : ℕ) → is_one_of ps n ≡ true → is_one_of qs n ≡ true
    rest p q ps qs e rises all n h =
        elim (or_cases (q == n) (is_one_of qs n) (sym (all n) ∙ one_of (p ∷ ps) n (let at = of_one ps n h in (suc at.0, (let low = at.1 in omega (arith, low)), at.2)))) [
          | inl here ↦ absurd (let f = eqb-true q n here in let less = rises.0 n h in omega (arith, e, f, less))
          | inr later ↦ later
        ]

    joined : x ≡ y → (((n : ℕ) → is_one_of xs n ≡ is_one_of ys n) → xs ≡ ys) → (x ∷ xs) ≡ (y ∷ ys)
    joined e more =
        ap (λ (n : ℕ). n ∷ xs) e
        ∙ ap (λ (ns : List ℕ). y ∷ ns)
        (more (λ n. same_test (is_one_of xs n) (is_one_of ys n) (rest x y xs ys e a same n) (rest y x ys xs (sym e) b (λ k. sym (same k)) n)))

pub same_sets : (xs ys : List ℕ) → IsStrictlyIncreasing xs → IsStrictlyIncreasing ys → ((n : ℕ) → is_one_of xs n ≡ is_one_of ys n) → xs ≡ ys
same_sets xs ys a b same = same_lists xs ys (rises_of xs (AllPairs-from_increasing xs a)) (rises_of ys (AllPairs-from_increasing ys b)) same

-- what sorting and dropping repetitions keep
pub kept_ones : (xs ys : List ℕ) (n : ℕ) → IsPermutation xs ys → is_one_of (dedup eqb ys) n ≡ is_one_of xs n
kept_ones xs ys n moved =
    ones_same (dedup eqb ys) xs n (λ at. Contains-permutation ys xs n (IsPermutation-sym xs ys moved) (Contains-from_dedup eqb ys n at))
    (λ at. Contains-dedup_nat ys n (Contains-permutation xs ys n moved at))

-- In a list that rises a number stands at one place.
pub one_place : (xs : List ℕ) (i j : ℕ) → IsStrictlyIncreasing xs → i < length xs → j < length xs → get_or xs i 0 ≡ get_or xs j 0 → i ≡ j
one_place xs i j rising low high e = elim (cases_order i j) [
  | inl same ↦ same
  | inr apart ↦ elim apart [
    | inl less ↦ absurd (let h = AllPairs-from_increasing xs rising i j 0 less high in omega (arith, h, e))
    | inr more ↦ absurd (let h = AllPairs-from_increasing xs rising j i 0 more low in omega (arith, h, e))
  ]
]

-- ---- a search in a set

no_falls : (xs : List ℕ) → IsStrictlyIncreasing xs → (i j : ℕ) → i ≤ j → j < length xs → get_or xs i 0 ≤ get_or xs j 0
no_falls xs rising i j order low = elim (cases_order i j) [
  | inl same ↦ (let e = ap (λ (n : ℕ). get_or xs n 0) same in omega (arith, e))
  | inr apart ↦ elim apart [
    | inl less ↦ (let h = AllPairs-from_increasing xs rising i j 0 less low in omega (arith, h))
    | inr more ↦ absurd (omega (arith, order, more))
  ]
]

pub search_found : (xs : List ℕ) (x i : ℕ) (r : Result ℕ ℕ) → IsStrictlyIncreasing xs → IsBinarySearchResult (λ y. nat_cmp y x) xs r → r ≡ Ok i → (i < length xs) × (get_or xs i 0 ≡ x)
search_found xs x i r rising found e =
    subst (λ (q : Result ℕ ℕ). MatchResult q (λ (k : ℕ). (k < length xs) × (get_or xs k 0 ≡ x)) (λ (k : ℕ). (k ≤ length xs) × ((j : ℕ) → j < k → get_or xs j 0 < x) × ((j : ℕ) → k ≤ j → j < length xs → x < get_or xs j 0))) e
    (searched xs x r found (no_falls xs rising))

pub search_missed : (xs : List ℕ) (x i : ℕ) (r : Result ℕ ℕ) → IsStrictlyIncreasing xs → IsBinarySearchResult (λ y. nat_cmp y x) xs r → r ≡ Err i → is_one_of xs x ≡ false
search_missed xs x i r rising found e =
    let facts = subst (λ (q : Result ℕ ℕ). MatchResult q (λ (k : ℕ). (k < length xs) × (get_or xs k 0 ≡ x)) (λ (k : ℕ). (k ≤ length xs) × ((j : ℕ) → j < k → get_or xs j 0 < x) × ((j : ℕ) → k ≤ j → j < length xs → x < get_or xs j 0))) e
    (searched xs x r found (no_falls xs rising)) in
    elim (cases_Bool (is_one_of xs x)) [
      | inl there ↦ absurd (nowhere facts (of_one xs x there))
      | inr not ↦ not
    ]
  where
    at_zero : (ys : List ℕ) (k : ℕ) → k < length ys → get_or ys k x ≡ get_or ys k 0
    at_zero [] k low = absurd (omega (arith, low))
    at_zero (y ∷ ys) zero low = refl
    at_zero (y ∷ ys) (suc k) low = at_zero ys k (omega (arith, low))

    nowhere : (i ≤ length xs) × ((j : ℕ) → j < i → get_or xs j 0 < x) × ((j : ℕ) → i ≤ j → j < length xs → x < get_or xs j 0) → Contains xs x → ⊥
    nowhere facts at = elim (cases_order at.0 i) [
      | inl same ↦ (let h = facts.2 at.0 (omega (arith, same)) at.1 in let z = at_zero xs at.0 at.1 in let here = at.2 in omega (arith, h, z, here))
      | inr apart ↦ elim apart [
        | inl less ↦ (let h = facts.1 at.0 less in let z = at_zero xs at.0 at.1 in let here = at.2 in omega (arith, h, z, here))
        | inr more ↦ (let h = facts.2 at.0 (omega (arith, more)) at.1 in let z = at_zero xs at.0 at.1 in let here = at.2 in omega (arith, h, z, here))
      ]
    ]

pub searched_one : (xs : List ℕ) (x : ℕ) (r : Result ℕ ℕ) → IsStrictlyIncreasing xs → IsBinarySearchResult (λ y. nat_cmp y x) xs r → is_ok r ≡ is_one_of xs x
searched_one xs x (Ok i) rising found = let f = search_found xs x i (Ok i) rising found refl in sym (one_of xs x (at_place xs i x f.0 f.1))
searched_one xs x (Err i) rising found = sym (search_missed xs x i (Err i) rising found refl)
