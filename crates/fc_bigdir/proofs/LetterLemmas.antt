-- First letters of names as numbers.
use Rattle.std.proofs.Common.{◌≡◌, ◌<◌, ◌≤◌, ℕ, ◌+◌, ◌*◌, ◌%◌, ◌^◌, List, length, get_or, take, min, sym, ap, ◌∙◌, arith, inl, inr}
use Rattle.std.specs.List.{fold}
use Rattle.std.proofs.lemmas.Bool.{cases_lt}
use Rattle.std.proofs.lemmas.List.{take_all}
use Rattle.std.proofs.lemmas.List.Sums.{fold_more}
use Rattle.fc_bigdir.specs.Twins.{first_letters}

-- letters as a number
abbrev pub letters_in : List ℕ → ℕ
letters_in letters = fold (λ n c. n % 2 ^ 59 * 32 + c % 32) 0 letters

-- one letter more
pub letter_more : (xs : List ℕ) (i n c : ℕ) → i < length xs → c ≡ get_or xs i 0 → n ≡ letters_in (take i xs) → n % 2 ^ 59 * 32 + c % 32 ≡ letters_in (take (i + 1) xs)
letter_more xs i n c within here so_far =
    ap (λ k. k % 2 ^ 59 * 32 + c % 32) so_far ∙ ap (λ d. letters_in (take i xs) % 2 ^ 59 * 32 + d % 32) here
    ∙ sym (fold_more (λ n c. n % 2 ^ 59 * 32 + c % 32) 0 xs i 0 within)

-- all of the first twelve letters, or as many as there are
pub letters_end : (name : List ℕ) (n i letters : ℕ) → n ≡ min (length name) 12 → length (take n name) ≤ i → letters ≡ letters_in (take i (take n name)) → letters ≡ first_letters name
letters_end name n i letters few all is =
    is ∙ ap letters_in (take_all i (take n name) all) ∙ elim (cases_lt (length name) 12) [
      | inl short ↦ (
          let whole : n ≡ length name = omega (arith, few) in
          ap letters_in (ap (λ k. take k name) whole ∙ take_all (length name) name (omega arith) ∙ sym (take_all 12 name (omega arith))))
      | inr long ↦ (let twelve : n ≡ 12 = omega (arith, few) in ap (λ k. letters_in (take k name)) twelve)
    ]
