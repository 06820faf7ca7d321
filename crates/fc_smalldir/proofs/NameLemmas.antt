-- Names in their fields, and the top bits of name bytes.
use Rattle.std.proofs.Common.{◌≡◌, ◌≤◌, ◌<◌, ℕ, zero, suc, ◌+◌, ◌*◌, ◌/◌, ◌%◌, ◌^◌, true, nat_le, List, [], ◌∷◌, ◌++◌, length, map, take, replicate, refl, ap, ap₂, ◌∙◌, arith, le-leb, length-append, length-take-le}
use Rattle.std.proofs.lemmas.List.{length-replicate}
use Rattle.std.specs.List.{AllByRecursion}
use Rattle.std.proofs.lemmas.List.Sums.{take_while-cons}
use Rattle.std.proofs.Math.Nat.{pow-suc}
use Rattle.fc_bytes.specs.Bits.{num}
use Rattle.fc_dirs.specs.Entries.{padded_name}
use Rattle.fc_dirs.specs.Small.{name_in}
use Rattle.fc_dirs.specs.SmallBytes.{with_tops}

-- bytes that a name has, below a limit
abbrev pub ArePrinted : ℕ → List ℕ → Type 0
ArePrinted limit = AllByRecursion (λ c. (32 ≤ c) × (c < limit))

-- a name followed by 13 ends there, or at the end of its field
pub name_in-padded : (limit n : ℕ) (name rest : List ℕ) → length name ≤ n → ArePrinted limit name → name_in (take n (name ++ 13 ∷ rest)) ≡ name
name_in-padded limit zero [] rest few printed = refl
name_in-padded limit (suc n) [] rest few printed = take_while-cons (λ c. nat_le 32 c) 13 (take n rest)
name_in-padded limit zero (c ∷ name) rest few printed = absurd (omega arith)
name_in-padded limit (suc n) (c ∷ name) rest few printed =
    let more = name_in-padded limit n name rest (omega arith) printed.1 in
    let first : nat_le 32 c ≡ true = le-leb 32 c printed.0.0 in
    take_while-cons (λ b. nat_le 32 b) c (take n (name ++ 13 ∷ rest)) ∙ rw first (ap (λ l. c ∷ l) more)

pub length-padded : (n : ℕ) (name : List ℕ) → length (padded_name n name) ≡ n
length-padded n name =
    length-take-le n (name ++ 13 ∷ replicate n 0) (omega (arith, length-append name (13 ∷ replicate n 0), length-replicate {A = ℕ} n 0))

pub length-with_tops : (tops : ℕ) (bytes : List ℕ) → length (with_tops tops bytes) ≡ length bytes
length-with_tops tops [] = refl
length-with_tops tops (c ∷ bytes) = ap suc (length-with_tops (tops / 2) bytes)

-- bytes without a top bit
abbrev pub AreLow : List ℕ → Type 0
AreLow = AllByRecursion (λ c. c < 128)

-- the top bits off again
pub low-with_tops : (tops : ℕ) (bytes : List ℕ) → AreLow bytes → map (λ c. c % 128) (with_tops tops bytes) ≡ bytes
low-with_tops tops [] low = refl
low-with_tops tops (c ∷ bytes) low =
    let here : (c + 128 * (tops % 2)) % 128 ≡ c = omega (arith, low.0) in
    ap₂ (λ x l. x ∷ l) here (low-with_tops (tops / 2) bytes low.1)

-- the top bits themselves
pub num-with_tops : (tops : ℕ) (bytes : List ℕ) → AreLow bytes → tops < 2 ^ length bytes → num (map (λ c. c / 128) (with_tops tops bytes)) ≡ tops
unfolding num
num-with_tops tops [] low few = omega arith
num-with_tops tops (c ∷ bytes) low few =
    let here : (c + 128 * (tops % 2)) / 128 ≡ tops % 2 = omega (arith, low.0) in
    let more : num (map (λ b. b / 128) (with_tops (tops / 2) bytes)) ≡ tops / 2 = num-with_tops (tops / 2) bytes low.1 (omega (arith, pow-suc 2 (length bytes))) in
    rw (here, more) (omega arith)

-- a padded name of low bytes is of low bytes
zeros_low : (n : ℕ) → AreLow (replicate n 0)
zeros_low zero = tt
zeros_low (suc n) = (omega arith, zeros_low n)

pub padded_low : (n : ℕ) (name rest : List ℕ) → ArePrinted 128 name → AreLow rest → AreLow (take n (name ++ 13 ∷ rest))
padded_low zero name rest printed low = tt
padded_low (suc n) [] rest printed low = (omega arith, take_low n rest low) where
  take_low : (n : ℕ) (bytes : List ℕ) → AreLow bytes → AreLow (take n bytes)
  take_low zero bytes low = tt
  take_low (suc n) [] low = tt
  take_low (suc n) (c ∷ bytes) low = (low.0, take_low n bytes low.1)
padded_low (suc n) (c ∷ name) rest printed low = (printed.0.1, padded_low n name rest printed.1 low)

pub padded_name_low : (name : List ℕ) → ArePrinted 128 name → AreLow (padded_name 10 name)
padded_name_low name printed = padded_low 10 name (replicate 10 0) printed (zeros_low 10)
