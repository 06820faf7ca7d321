-- Another lowest bit of a word gives another check.
use Rattle.std.proofs.Common.{◌≡◌, ◌≢◌, ◌≤◌, ◌<◌, ℕ, ◌+◌, ◌-◌, ◌*◌, ◌/◌, ◌%◌, ◌^◌, List, [], ◌∷◌, ◌++◌, max, bit_xor, inl, inr, refl, sym, ap, ap₂, ◌∙◌, arith}
use Rattle.std.specs.List.{fold, AllByRecursion}
use Rattle.std.specs.Int.{w32, rotate_right, bit_at}
use Rattle.std.proofs.lemmas.Bool.{cases_lt}
use Rattle.std.proofs.lemmas.Nat.{or_lt, xor_lt, shr-shr}
use Rattle.std.proofs.lemmas.Nat.Bits.{bit_at_or, bit_at_xor, bit_at_above, bit_at_cat_low, bit_at_cat_high, bit_at-zero, bit_at-pow_other}
use Rattle.std.proofs.lemmas.List.Sums.{fold-append}
use Rattle.fc_bytes.specs.Checks.{accumulate, accumulated, byte_xor}

-- the two parts of a word that is turned right by 13
turned_high : (s k : ℕ) → s < 2 ^ 32 → k < 19 → bit_at ((s * 2 ^ 19) % 2 ^ 32) k ≡ 0
turned_high s k small low =
    let parts : (s * 2 ^ 19) % 2 ^ 32 ≡ s % 2 ^ 13 * 2 ^ 19 + 0 = omega arith in
    ap (λ n. bit_at n k) parts ∙ bit_at_cat_low (s % 2 ^ 13) 19 0 k low ∙ bit_at-zero k

turned_low : (s k : ℕ) → s < 2 ^ 32 → 19 ≤ k → k < 32 → bit_at ((s * 2 ^ 19) % 2 ^ 32) k ≡ bit_at s (k - 19)
turned_low s k small high within =
    let parts : (s * 2 ^ 19) % 2 ^ 32 ≡ s % 2 ^ 13 * 2 ^ 19 + 0 = omega arith in
    let whole : s / 2 ^ 13 * 2 ^ 13 + s % 2 ^ 13 ≡ s = omega arith in
    ap (λ n. bit_at n k) parts ∙ bit_at_cat_high (s % 2 ^ 13) 19 0 k (omega arith) high
    ∙ sym (bit_at_cat_low (s / 2 ^ 13) 13 (s % 2 ^ 13) (k - 19) (omega arith)) ∙ ap (λ n. bit_at n (k - 19)) whole

-- a word that is turned right by 13, bit for bit
turned : (s k : ℕ) → s < 2 ^ 32 → k < 32 → bit_at (rotate_right w32 s 13) k ≡ bit_at s ((k + 13) % 32)
turned s k small within = elim (cases_lt k 19) [
  | inl low ↦
      let place : (k + 13) % 32 ≡ 13 + k = omega arith in
      bit_at_or (s / 2 ^ 13) ((s * 2 ^ 19) % 2 ^ 32) k
      ∙ ap₂ max (ap (λ n. n % 2) (shr-shr s 13 k) ∙ ap (bit_at s) (sym place)) (turned_high s k small low)
      ∙ omega arith
  | inr high ↦
      let place : (k + 13) % 32 ≡ k - 19 = omega arith in
      bit_at_or (s / 2 ^ 13) ((s * 2 ^ 19) % 2 ^ 32) k
      ∙ ap₂ max (bit_at_above (s / 2 ^ 13) 19 k (omega arith) high) (turned_low s k small high within ∙ ap (bit_at s) (sym place))
      ∙ omega arith
]

-- two words differ in one bit
pub record Differ (p a b : ℕ) : Type 0 where
  pub here : bit_at a p + bit_at b p ≡ 1
  pub others : (k : ℕ) → k < 32 → k ≢ p → bit_at a k ≡ bit_at b k
  pub first : a < 2 ^ 32
  pub second : b < 2 ^ 32

turned_below : (s : ℕ) → s < 2 ^ 32 → rotate_right w32 s 13 < 2 ^ 32
turned_below s small = or_lt 32 (s / 2 ^ 13) ((s * 2 ^ 19) % 2 ^ 32) (omega arith) (omega arith)

pub accumulate_below : (s x : ℕ) → s < 2 ^ 32 → x < 2 ^ 32 → accumulate s x < 2 ^ 32
accumulate_below s x small word = xor_lt 32 x (rotate_right w32 s 13) word (turned_below s small)

-- what is taken in turns the bit on
differ_step : (p q a b x : ℕ) → q < 32 → p ≡ (q + 13) % 32 → x < 2 ^ 32 → Differ p a b → Differ q (accumulate a x) (accumulate b x)
differ_step p q a b x within place word differ = record {
  here =
      let bits_a = bit_at_xor x (rotate_right w32 a 13) q in
      let bits_b = bit_at_xor x (rotate_right w32 b 13) q in
      let turn_a = turned a q differ.first within ∙ ap (bit_at a) (sym place) in
      let turn_b = turned b q differ.second within ∙ ap (bit_at b) (sym place) in
      rw (bits_a, bits_b, turn_a, turn_b) (omega (arith, differ.here));
  others = λ k h ne.
      let bits_a = bit_at_xor x (rotate_right w32 a 13) k in
      let bits_b = bit_at_xor x (rotate_right w32 b 13) k in
      let other : (k + 13) % 32 ≢ p = omega (arith, h, ne) in
      let same = differ.others ((k + 13) % 32) (omega arith) other in
      bits_a ∙ ap (λ n. (bit_at x k + n) % 2) (turned a k differ.first h ∙ same ∙ sym (turned b k differ.second h)) ∙ sym bits_b;
  first = accumulate_below a x differ.first word;
  second = accumulate_below b x differ.second word;
}

-- the words 0 and 1
differ_first : (s : ℕ) → s < 2 ^ 32 → Differ 0 (accumulate s 0) (accumulate s 1)
differ_first s small = record {
  here =
      let bits_a = bit_at_xor 0 (rotate_right w32 s 13) 0 in
      let bits_b = bit_at_xor 1 (rotate_right w32 s 13) 0 in
      rw (bits_a, bits_b) (omega arith);
  others = λ k h ne.
      let bits_a = bit_at_xor 0 (rotate_right w32 s 13) k in
      let bits_b = bit_at_xor 1 (rotate_right w32 s 13) k in
      let none : bit_at 0 k ≡ bit_at 1 k = bit_at-zero k ∙ sym (bit_at-pow_other 0 k ne) in
      bits_a ∙ ap (λ n. (n + bit_at (rotate_right w32 s 13) k) % 2) none ∙ sym bits_b;
  first = accumulate_below s 0 small (omega arith);
  second = accumulate_below s 1 small (omega arith);
}

-- bit 4 of the exclusive or of a word's bytes
byte_bit : (n : ℕ) → bit_at (byte_xor n) 4 ≡ (bit_at n 4 + bit_at n 12 + bit_at n 20 + bit_at n 28) % 2
byte_bit n =
    let b0 = n % 256 in
    let b1 = n / 2 ^ 8 % 256 in
    let b2 = n / 2 ^ 16 % 256 in
    let b3 = n / 2 ^ 24 % 256 in
    let x0 = bit_xor 0 b0 in
    let x1 = bit_xor x0 b1 in
    let x2 = bit_xor x1 b2 in
    let e3 : bit_at (byte_xor n) 4 ≡ (bit_at x2 4 + bit_at b3 4) % 2 = bit_at_xor x2 b3 4 in
    let e2 = bit_at_xor x1 b2 4 in
    let e1 = bit_at_xor x0 b1 4 in
    let e0 = bit_at_xor 0 b0 4 in
    rw e3 (rw e2 (rw e1 (rw e0 (omega arith))))

-- the sum of a check stays a word
pub fold_below : (s : ℕ) (xs : List ℕ) → s < 2 ^ 32 → AllByRecursion (λ x. x < 2 ^ 32) xs → fold accumulate s xs < 2 ^ 32
fold_below s [] small words = small
fold_below s (x ∷ xs) small words = fold_below (accumulate s x) xs (accumulate_below s x small words.0) words.1

-- The check over words, a word 0 or 1, and four further numbers, isn't the same for both.
pub flipped : (xs : List ℕ) (v a b c : ℕ) → AllByRecursion (λ x. x < 2 ^ 32) xs → v < 2 ^ 32 → a < 256 → b < 256 → c < 256
    → byte_xor (accumulated (xs ++ 0 ∷ v ∷ a ∷ b ∷ c ∷ [])) ≢ byte_xor (accumulated (xs ++ 1 ∷ v ∷ a ∷ b ∷ c ∷ []))
unfolding accumulated
flipped xs v a b c words hv ha hb hc same =
    let s = fold accumulate 0 xs in
    let small : s < 2 ^ 32 = fold_below 0 xs (omega arith) words in
    let d0 = differ_first s small in
    let d1 = differ_step 0 19 _ _ v (omega arith) refl hv d0 in
    let d2 = differ_step 19 6 _ _ a (omega arith) refl (omega arith) d1 in
    let d3 = differ_step 6 25 _ _ b (omega arith) refl (omega arith) d2 in
    let d4 = differ_step 25 12 _ _ c (omega arith) refl (omega arith) d3 in
    let bytes = sym (ap byte_xor (fold-append accumulate 0 xs (0 ∷ v ∷ a ∷ b ∷ c ∷ []))) ∙ same ∙ ap byte_xor (fold-append accumulate 0 xs (1 ∷ v ∷ a ∷ b ∷ c ∷ [])) in
    let bits = ap (λ n. bit_at n 4) bytes in
    let e0 = byte_bit (fold accumulate s (0 ∷ v ∷ a ∷ b ∷ c ∷ [])) in
    let e1 = byte_bit (fold accumulate s (1 ∷ v ∷ a ∷ b ∷ c ∷ [])) in
    let o4 = d4.others 4 (omega arith) (omega arith) in
    let o20 = d4.others 20 (omega arith) (omega arith) in
    let o28 = d4.others 28 (omega arith) (omega arith) in
    omega (arith, bits, e0, e1, o4, o20, o28, d4.here)
