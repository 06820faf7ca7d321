-- Bytes whose bits are the same.
use Rattle.std.proofs.Common.{◌≡◌, ◌<◌, ◌≤◌, ℕ, ◌+◌, ◌*◌, List, [], ◌∷◌, length, drop, get_or, refl, sym, ap, ◌∙◌, arith, mod-eq_of_lt}
use Rattle.std.specs.Prelude.{slice_index}
use Rattle.std.proofs.lemmas.List.{ext_get_or, get_or-drop, length-drop, get_or_append_left}
use Rattle.fc_bytes.specs.Bits.{bits, low_bits, num}
use Rattle.fc_bytes.specs.BitLaws.{AreBytes, bits-drop, length-low_bits, num-low_bits}

-- the first eight bits are those of the first byte
pub first_bits : (x : ℕ) (xs : List ℕ) (k : ℕ) → k < 8 → get_or (bits (x ∷ xs)) k 0 ≡ get_or (low_bits 8 x) k 0
unfolding bits
first_bits x xs k low = get_or_append_left (low_bits 8 x) (bits xs) 0 k (omega (arith, length-low_bits 8 x))

first_byte : (x y : ℕ) (xs ys : List ℕ) → x < 256 → y < 256 → ((k : ℕ) → k < 8 → get_or (bits (y ∷ ys)) k 0 ≡ get_or (bits (x ∷ xs)) k 0) → y ≡ x
first_byte x y xs ys low_x low_y same =
    let bs : low_bits 8 y ≡ low_bits 8 x =
    ext_get_or 0 (low_bits 8 y) (low_bits 8 x) (length-low_bits 8 y ∙ sym (length-low_bits 8 x))
    (λ k h. let below : k < 8 = omega (arith, h, length-low_bits 8 y) in sym (first_bits y ys k below) ∙ same k below ∙ first_bits x xs k below) in
    sym (num-low_bits 8 y ∙ mod-eq_of_lt low_y) ∙ ap num bs ∙ (num-low_bits 8 x ∙ mod-eq_of_lt low_x)

pub byte_same : (s t : List ℕ) (i : ℕ) → AreBytes s → AreBytes t → length t ≡ length s → ((k : ℕ) → 8 * i ≤ k → k < 8 * i + 8 → slice_index (bits t) k ≡ slice_index (bits s) k)
    → slice_index t i ≡ slice_index s i
byte_same s t i low_s low_t size same = by (drop i s) (drop i t) refl refl
  where
    at : (l : List ℕ) → get_or (drop i l) 0 0 ≡ get_or l i 0
    at l = get_or-drop i l 0 0 ∙ ap (λ (k : ℕ). get_or l k 0) (let e : i + 0 ≡ i = omega arith in e)

    bit : (l : List ℕ) (k : ℕ) → get_or (bits (drop i l)) k 0 ≡ get_or (bits l) (8 * i + k) 0
    bit l k = ap (λ (bs : List ℕ). get_or bs k 0) (bits-drop i l) ∙ get_or-drop (8 * i) (bits l) k 0

    by : (u v : List ℕ) → drop i s ≡ u → drop i t ≡ v → slice_index t i ≡ slice_index s i
    by [] [] es et = sym (at t) ∙ ap (λ (l : List ℕ). get_or l 0 0) (et ∙ sym es) ∙ at s
    by [] (y ∷ v) es et = absurd (let a = ap length es in let b = ap length et in omega (arith, a, b, length-drop i s, length-drop i t, size))
    by (x ∷ u) [] es et = absurd (let a = ap length es in let b = ap length et in omega (arith, a, b, length-drop i s, length-drop i t, size))
    by (x ∷ u) (y ∷ v) es et =
        let is_x : get_or s i 0 ≡ x = sym (at s) ∙ ap (λ (l : List ℕ). get_or l 0 0) es in
        let is_y : get_or t i 0 ≡ y = sym (at t) ∙ ap (λ (l : List ℕ). get_or l 0 0) et in
        is_y
        ∙ first_byte x y u v (omega (arith, is_x, low_s i)) (omega (arith, is_y, low_t i))
        (λ k low.
        ap (λ (l : List ℕ). get_or (bits l) k 0) (sym et) ∙ bit t k ∙ same (8 * i + k) (omega arith) (omega (arith, low)) ∙ sym (bit s k) ∙ ap (λ (l : List ℕ). get_or (bits l) k 0) es)
        ∙ sym is_x
