-- The first element that passes a test, and names that fold to one.
use Rattle.std.proofs.Common.{◌≡◌, ◌≤◌, ◌<◌, ℕ, zero, suc, ◌+◌, Bool, true, false, cond, List, [], ◌∷◌, length, get_or, position, find, is_some, nat_lt, nat_le, not, unwrap_or, Option, Some, None, refl, arith}
use Rattle.std.specs.List.{range_with_len, position_or_len, prefix_len, list_any}
use Rattle.std.proofs.lemmas.List.Sums.{position_or_len_is, prefix_len-le-length}
use Rattle.std.proofs.lemmas.Bool.Decides.{nat_tests}
use Rattle.fc_dirs.specs.declared.Entry.{Entry}

-- an entry of no meaning, for what stands past the end of a list
abbrev pub blank : Entry
blank = record { name = []; load = 0; exec = 0; len = 0; address = 0; attrs = 0; last = 0 }

pub position-none : {X : Type 0} (p : X → Bool) (xs : List X) (d : X) → ((k : ℕ) → k < length xs → p (get_or xs k d) ≡ false) → position p xs ≡ None
position-none p xs d fails =
    let all : position_or_len p xs ≡ length xs = position_or_len_is p xs (length xs) d (omega arith) fails (λ h. absurd (omega (arith, h))) in
    grind (arith, nat_tests, all)

pub position-found : {X : Type 0} (p : X → Bool) (xs : List X) (d : X) (i : ℕ) → i < length xs → ((k : ℕ) → k < i → p (get_or xs k d) ≡ false) → p (get_or xs i d) ≡ true → position p xs ≡ Some i
position-found p xs d i within fails passes =
    let all : position_or_len p xs ≡ i = position_or_len_is p xs i d (omega arith) fails (λ _. passes) in
    grind (arith, nat_tests, all)

-- a search in the numbers from a on finds the first that passes
pub find-none : (p : ℕ → Bool) (a n : ℕ) → ((k : ℕ) → k < n → p (a + k) ≡ false) → find p (range_with_len a n) ≡ None
find-none p a zero fails = refl
find-none p a (suc n) fails =
    let place : a + 0 ≡ a = omega arith in
    let here : p a ≡ false = rw place at (fails 0 (omega arith)) in
    let more : find p (range_with_len (a + 1) n) ≡ None = find-none p (a + 1) n (λ k h. let sum : a + 1 + k ≡ a + (k + 1) = omega arith in rw sum (fails (k + 1) (omega (arith, h)))) in
    rw here more

pub find-found : (p : ℕ → Bool) (a n i : ℕ) → i < n → ((k : ℕ) → k < i → p (a + k) ≡ false) → p (a + i) ≡ true → find p (range_with_len a n) ≡ Some (a + i)
find-found p a zero i within fails passes = absurd (omega arith)
find-found p a (suc n) zero within fails passes =
    let place : a + 0 ≡ a = omega arith in
    let here : p a ≡ true = rw place at passes in
    rw (here, place) refl
find-found p a (suc n) (suc i) within fails passes =
    let place : a + 0 ≡ a = omega arith in
    let here : p a ≡ false = rw place at (fails 0 (omega arith)) in
    let sum : a + suc i ≡ a + 1 + i = omega arith in
    let more : find p (range_with_len (a + 1) n) ≡ Some (a + 1 + i) =
    find-found p (a + 1) n i (omega arith) (λ k h. let s : a + 1 + k ≡ a + (k + 1) = omega arith in rw s (fails (k + 1) (omega (arith, h)))) (rw sum at passes) in
    rw (here, sum) more

-- where the search finds nothing, none passes
pub fails-find : (p : ℕ → Bool) (a n : ℕ) → find p (range_with_len a n) ≡ None → (k : ℕ) → k < n → p (a + k) ≡ false
fails-find p a zero none k within = absurd (omega arith)
fails-find p a (suc n) none k within = go (p a) refl (fails-find p (a + 1) n) none k within where
  go : (b : Bool) → p a ≡ b → (find p (range_with_len (a + 1) n) ≡ None → (k : ℕ) → k < n → p (a + 1 + k) ≡ false)
      → cond (p a) (Some a) (find p (range_with_len (a + 1) n)) ≡ None → (k : ℕ) → k < suc n → p (a + k) ≡ false
  go true is later none k within = absurd (let some : Some a ≡ None = rw is at none in cc)
  go false is later none zero within = let place : a + 0 ≡ a = omega arith in rw place is
  go false is later none (suc k) within =
      let sum : a + suc k ≡ a + 1 + k = omega arith in
      rw sum (later (rw is at none) k (omega arith))

-- the answer of `position` with the length in place of None
pub place_or_end : {X : Type 0} (p : X → Bool) (xs : List X) (r : Option ℕ) → r ≡ position p xs → unwrap_or r (length xs) ≡ position_or_len p xs
place_or_end p xs r is =
    let below : position_or_len p xs ≤ length xs = prefix_len-le-length (λ x. not (p x)) xs in
    rw is (grind (arith, nat_tests, below))

-- the bytes from 32 on, by the other test
pub printed_len : (xs : List ℕ) → position_or_len (λ c. nat_lt c 32) xs ≡ prefix_len (λ c. nat_le 32 c) xs
printed_len [] = refl
printed_len (c ∷ xs) =
    let test : not (nat_lt c 32) ≡ nat_le 32 c = grind (arith, nat_tests) in
    rw (test, printed_len xs) refl

-- whether a search finds something
pub is_some-find : {X : Type 0} (p : X → Bool) (xs : List X) → is_some (find p xs) ≡ list_any p xs
is_some-find p [] = refl
is_some-find p (x ∷ xs) = go (p x) refl (is_some-find p xs) where
  go : (b : Bool) → p x ≡ b → is_some (find p xs) ≡ list_any p xs → is_some (find p (x ∷ xs)) ≡ list_any p (x ∷ xs)
  go true is more = rw is refl
  go false is more = rw is more
