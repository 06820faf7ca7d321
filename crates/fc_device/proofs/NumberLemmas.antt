-- One of several calls in a row, by its number.
use Rattle.std.proofs.Common.{◌≡◌, ℕ, zero, suc, ◌+◌, arith, Bool, true, false, cond, ◌||◌, List, ◌∙◌, ap}
use Rattle.fc_device.specs.Numbers.{any_listed, calls_before_listed, is_listed, last_number, next_number, number_after}

module _ (numbers : List ℕ) (n : ℕ) where
  -- it isn't listed, and the others follow
  pub last_goes_on : (left rest : ℕ) → left ≡ suc rest → is_listed numbers (next_number n) ≡ false → last_number numbers n left ≡ last_number numbers (next_number n) rest
  last_goes_on left rest is not_listed =
      ap (λ (k : ℕ). last_number numbers n k) is ∙ ap (λ (b : Bool). cond b (next_number n) (last_number numbers (next_number n) rest)) not_listed

  pub listed_goes_on : (left rest : ℕ) → left ≡ suc rest → is_listed numbers (next_number n) ≡ false → any_listed numbers n left ≡ any_listed numbers (next_number n) rest
  listed_goes_on left rest is not_listed =
      ap (λ (k : ℕ). any_listed numbers n k) is ∙ ap (λ (b : Bool). b || any_listed numbers (next_number n) rest) not_listed

  -- it is listed, and ends them
  pub last_ends : (left rest : ℕ) → left ≡ suc rest → is_listed numbers (next_number n) ≡ true → last_number numbers n left ≡ next_number n
  last_ends left rest is listed =
      ap (λ (k : ℕ). last_number numbers n k) is ∙ ap (λ (b : Bool). cond b (next_number n) (last_number numbers (next_number n) rest)) listed

  pub listed_ends : (left rest : ℕ) → left ≡ suc rest → is_listed numbers (next_number n) ≡ true → any_listed numbers n left ≡ true
  listed_ends left rest is listed =
      ap (λ (k : ℕ). any_listed numbers n k) is ∙ ap (λ (b : Bool). b || any_listed numbers (next_number n) rest) listed

  -- so many come before the first that is listed
  pub before_goes_on : (left rest : ℕ) → left ≡ suc rest → is_listed numbers (next_number n) ≡ false
      → calls_before_listed numbers n left ≡ suc (calls_before_listed numbers (next_number n) rest)
  before_goes_on left rest is not_listed =
      ap (λ (k : ℕ). calls_before_listed numbers n k) is ∙ ap (λ (b : Bool). cond b zero (suc (calls_before_listed numbers (next_number n) rest))) not_listed

  pub before_ends : (left rest : ℕ) → left ≡ suc rest → is_listed numbers (next_number n) ≡ true → calls_before_listed numbers n left ≡ 0
  before_ends left rest is listed =
      ap (λ (k : ℕ). calls_before_listed numbers n k) is ∙ ap (λ (b : Bool). cond b zero (suc (calls_before_listed numbers (next_number n) rest))) listed

-- one call more
pub number_after-more : (n calls : ℕ) → number_after n (calls + 1) ≡ next_number (number_after n calls)
number_after-more n calls = ap (λ (k : ℕ). number_after n k) (let e : calls + 1 ≡ suc calls = omega arith in e)
