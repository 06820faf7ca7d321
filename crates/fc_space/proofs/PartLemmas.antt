-- Parts of rows of sectors, and rows that are cut.
use Rattle.std.proofs.Common.{◌≡◌, ◌<◌, ◌≤◌, ℕ, zero, suc, ◌+◌, ◌-◌, min, Bool, true, false, List, [], ◌∷◌, ◌++◌, length, take, drop, Option, Some, None, refl, sym, ap, ◌∙◌, inl, inr, arith, append_assoc, drop_of_length-le}
use Rattle.std.specs.Prelude.{nat_le, if◌then◌else◌}
use Rattle.std.specs.List.{range_with_len}
use Rattle.std.specs.Option.{option_map}
use Rattle.std.proofs.lemmas.Bool.{cases_lt, le-leb, lt-leb}
use Rattle.std.proofs.lemmas.List.FromFn.{length-range_with_len}
use Rattle.fc_image.specs.Layout.{first_part}
use Rattle.fc_image.proofs.KindLemmas.{none_left as take_none}

drop_range : (k a n j : ℕ) → k ≤ n → a + k ≡ j → drop k (range_with_len a n) ≡ range_with_len j (n - k)
drop_range zero a n j within at =
    ap (λ (x : ℕ). range_with_len x n) (let e : a ≡ j = omega arith in e) ∙ ap (range_with_len j) (let e : n ≡ n - 0 = omega arith in e)
drop_range (suc k) a zero j within at = absurd (omega arith)
drop_range (suc k) a (suc n) j within at =
    drop_range k (a + 1) n j (omega arith) (omega arith) ∙ ap (range_with_len j) (let e : n - k ≡ suc n - suc k = omega arith in e)

take_range : (k a n : ℕ) → k ≤ n → take k (range_with_len a n) ≡ range_with_len a k
take_range zero a n within = refl
take_range (suc k) a zero within = absurd (omega arith)
take_range (suc k) a (suc n) within = ap (λ (xs : List ℕ). a ∷ xs) (take_range k (a + 1) n (omega arith))

take_all : (k : ℕ) (xs : List ℕ) → length xs ≤ k → take k xs ≡ xs
take_all zero [] within = refl
take_all zero (x ∷ xs) within = absurd (omega arith)
take_all (suc k) [] within = refl
take_all (suc k) (x ∷ xs) within = ap (λ (ys : List ℕ). x ∷ ys) (take_all k xs (omega arith))

-- the row after `skip` sectors of a row, with at most `need` of them
pub part_sectors : (first n skip need passed kept : ℕ) → passed ≡ min skip n → kept ≡ min need (n - passed)
    → range_with_len (first + passed) kept ≡ take need (drop skip (range_with_len first n))
part_sectors first n skip need passed kept p k = elim (cases_lt skip n) [
  | inl inside ↦ (
      let whole : passed ≡ skip = omega (arith, p) in
      let d = drop_range skip first n (first + passed) (omega arith) (omega arith) in
      elim (cases_lt need (n - skip)) [
        | inl less ↦ (let all : kept ≡ need = omega (arith, k) in sym (ap (take need) d ∙ take_range need (first + passed) (n - skip) (omega arith) ∙ ap (range_with_len (first + passed)) (sym all)))
        | inr more ↦ (
            let all : kept ≡ n - skip = omega (arith, k) in
            sym (ap (take need) d ∙ take_all need (range_with_len (first + passed) (n - skip)) (omega (arith, length-range_with_len (first + passed) (n - skip))) ∙ ap (range_with_len (first + passed)) (sym all)))
      ])
  | inr beyond ↦ (
      let none : kept ≡ 0 = omega (arith, p, k) in
      ap (range_with_len (first + passed)) none
      ∙ sym (ap (take need) (drop_of_length-le (range_with_len first n) {i = skip} (omega (arith, length-range_with_len first n))) ∙ take_none need))
]

-- ---- the first sectors of two rows

map_id : (o : Option (List ℕ)) → o ≡ option_map (λ (more : List ℕ). [] ++ more) o
map_id None = refl
map_id (Some xs) = refl

same_test : (n l : ℕ) → nat_le (suc n) (suc l) ≡ nat_le n l
same_test n l = elim (cases_lt l n) [
  | inl less ↦ lt-leb (suc n) (suc l) (omega arith) ∙ sym (lt-leb n l less)
  | inr other ↦ le-leb (suc n) (suc l) (omega arith) ∙ sym (le-leb n l (omega arith))
]

longer : (n x : ℕ) (xs : List ℕ) → first_part (suc n) (x ∷ xs) ≡ option_map (λ (more : List ℕ). x ∷ more) (first_part n xs)
longer n x xs = ap (λ (b : Bool). if b then Some (x ∷ take n xs) else None) (same_test n (length xs)) ∙ by (nat_le n (length xs))
  where
    by : (b : Bool) → (if b then Some (x ∷ take n xs) else None) ≡ option_map (λ (more : List ℕ). x ∷ more) (if b then Some (take n xs) else None)
    by true = refl
    by false = refl

map_twice : (x : ℕ) (front : List ℕ) (o : Option (List ℕ))
    → option_map (λ (more : List ℕ). x ∷ more) (option_map (λ (more : List ℕ). front ++ more) o) ≡ option_map (λ (more : List ℕ). (x ∷ front) ++ more) o
map_twice x front None = refl
map_twice x front (Some more) = refl

pub none_wanted : (xs : List ℕ) → first_part 0 xs ≡ Some []
none_wanted xs = ap (λ (b : Bool). if b then Some (take {A = ℕ} 0 xs) else None) (le-leb 0 (length xs) (omega arith))

first_of_both : (need : ℕ) (xs ys : List ℕ)
    → first_part need (xs ++ ys) ≡ option_map (λ (more : List ℕ). take need xs ++ more) (first_part (need - length (take need xs)) ys)
first_of_both zero xs ys =
    none_wanted (xs ++ ys) ∙ sym (ap (option_map (λ (more : List ℕ). [] ++ more)) (ap (λ (n : ℕ). first_part n ys) (let e : 0 - 0 ≡ 0 = omega arith in e) ∙ none_wanted ys))
first_of_both (suc n) [] ys =
    map_id (first_part (suc n) ys)
    ∙ ap (λ (k : ℕ). option_map (λ (more : List ℕ). [] ++ more) (first_part k ys)) (let e : suc n ≡ suc n - 0 = omega arith in e)
first_of_both (suc n) (x ∷ xs) ys =
    let l = length (take n xs) in
    longer n x (xs ++ ys) ∙ ap (option_map (λ (more : List ℕ). x ∷ more)) (first_of_both n xs ys)
    ∙ map_twice x (take n xs) (first_part (n - l) ys)
    ∙ ap (λ (k : ℕ). option_map (λ (more : List ℕ). (x ∷ take n xs) ++ more) (first_part k ys)) (let e : n - l ≡ suc n - suc l = omega arith in e)

drop_both : (skip : ℕ) (xs ys : List ℕ) → drop skip (xs ++ ys) ≡ drop skip xs ++ drop (skip - length xs) ys
drop_both zero xs ys = ap (λ (k : ℕ). xs ++ drop k ys) (let e : 0 ≡ 0 - length xs = omega arith in e)
drop_both (suc k) [] ys = ap (λ (j : ℕ). drop j ys) (let e : suc k ≡ suc k - 0 = omega arith in e)
drop_both (suc k) (x ∷ xs) ys = drop_both k xs ys ∙ ap (λ (j : ℕ). drop k xs ++ drop j ys) (let e : k - length xs ≡ suc k - suc (length xs) = omega arith in e)

-- what is still wanted after the first row, where its part has been taken
pub wanted_behind : (need skip : ℕ) (xs ys : List ℕ)
    → first_part need (drop skip (xs ++ ys))
    ≡ option_map (λ (more : List ℕ). take need (drop skip xs) ++ more) (first_part (need - length (take need (drop skip xs))) (drop (skip - length xs) ys))
wanted_behind need skip xs ys =
    ap (first_part need) (drop_both skip xs ys) ∙ first_of_both need (drop skip xs) (drop (skip - length xs) ys)

pub map_more : (front part : List ℕ) (o : Option (List ℕ))
    → option_map (λ (more : List ℕ). front ++ more) (option_map (λ (more : List ℕ). part ++ more) o) ≡ option_map (λ (more : List ℕ). (front ++ part) ++ more) o
map_more front part None = refl
map_more front part (Some more) = ap (λ (xs : List ℕ). let o : Option (List ℕ) = Some xs in o) (sym (append_assoc front part more))

-- nothing is after the sectors of no row
pub none_behind : (need skip : ℕ) → 0 < need → first_part need (drop skip []) ≡ None
none_behind need skip some =
    ap (first_part need) (drop_of_length-le {A = ℕ} [] {i = skip} (omega arith)) ∙ ap (λ (b : Bool). if b then Some (take {A = ℕ} need []) else None) (lt-leb need 0 some)
