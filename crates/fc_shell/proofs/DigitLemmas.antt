-- Hexadecimal digits.
use Rattle.std.proofs.Common.{◌≡◌, ◌<◌, ℕ, ◌+◌, ◌*◌, ◌/◌, ◌%◌, List, [], ◌∷◌, ◌++◌, length, slice_index, take, get_or, set, refl, sym, ap, ap₂, ◌∙◌, arith, append_assoc}
use Rattle.std.proofs.lemmas.List.{take_more, take_more_set, length-set}
use Rattle.hex.specs.Hex.{encode_lower, encode_with, lower_digits}

-- digits of bytes one after another
pub encode-append : (xs ys : List ℕ) → encode_lower (xs ++ ys) ≡ encode_lower xs ++ encode_lower ys
unfolding encode_with
encode-append [] ys = refl
encode-append (x ∷ xs) ys = ap (λ (rest : List ℕ). slice_index lower_digits (x / 16) ∷ slice_index lower_digits (x % 16) ∷ rest) (encode-append xs ys)

pub no_digits : (xs : List ℕ) → xs ≡ [] → encode_lower xs ≡ []
unfolding encode_with
no_digits xs none = ap encode_lower none

one_byte : (b high low : ℕ) → high ≡ slice_index lower_digits (b / 16) → low ≡ slice_index lower_digits (b % 16) → encode_lower (b ∷ []) ≡ high ∷ low ∷ []
unfolding encode_with
one_byte b high low up down = ap₂ (λ (x y : ℕ). x ∷ y ∷ []) (sym up) (sym down)

-- the digits of a byte more stand in the text
pub digits_more : (bytes text : List ℕ) (i high low : ℕ) → i < length bytes → length text ≡ 2 * length bytes → take (2 * i) text ≡ encode_lower (take i bytes)
    → high ≡ slice_index lower_digits (get_or bytes i 0 / 16) → low ≡ slice_index lower_digits (get_or bytes i 0 % 16)
    → take (2 * (i + 1)) (set (set text (2 * i) high) (2 * i + 1) low) ≡ encode_lower (take (i + 1) bytes)
digits_more bytes text i high low within long so_far up down =
    let first = set text (2 * i) high in
    let e : 2 * (i + 1) ≡ 2 * i + 1 + 1 = omega arith in
    let inside : 2 * i + 1 < length first = omega (arith, within, long, length-set text (2 * i) high) in
    ap (λ (n : ℕ). take n (set first (2 * i + 1) low)) e
    ∙ take_more_set first (2 * i + 1) low inside
    ∙ ap (λ (xs : List ℕ). xs ++ low ∷ []) (take_more_set text (2 * i) high (omega (arith, within, long)))
    ∙ append_assoc (take (2 * i) text) (high ∷ []) (low ∷ [])
    ∙ ap₂ (λ (xs ys : List ℕ). xs ++ ys) so_far (sym (one_byte (get_or bytes i 0) high low up down))
    ∙ sym (encode-append (take i bytes) (get_or bytes i 0 ∷ []))
    ∙ ap encode_lower (sym (take_more bytes i 0 within))
