-- The bytes that pairs of digits say, what the crate `hex` decodes.
use Rattle.std.proofs.Common.{◌≡◌, ℕ, ◌+◌, ◌*◌, ◌%◌, ◌==◌, ◌&&◌, Bool, true, false, List, [], ◌∷◌, length, Option, Some, None, is_some, unwrap_or, Result, Ok, Err, refl, ap, ◌∙◌, arith, if◌then◌else◌}
use Rattle.std.specs.List.{list_all}
use Rattle.std.specs.Result.{result_unwrap_or}
use Rattle.std.specs.Str.{bytes_eq}
use Rattle.std.specs.Prelude.{codes}
use Rattle.hex.specs.Hex.{decode_of, decode_pairs, digit_or_error, hex_digit_value, is_hex_digit, ◌>>=◌}
use Rattle.hex.specs.declared.error.FromHexError.{FromHexError}
use Rattle.fc_script.specs.Lines.{bytes_of, cons_some, pairs_of}

same_pair : (a b i : ℕ) (high low : Option ℕ) (decoded : Result (List ℕ) FromHexError) (pairs : Option (List ℕ)) (bytes : List ℕ)
    → ((bs : List ℕ) → decoded ≡ Ok bs → pairs ≡ Some bs)
    → ((digit_or_error a i high >>= (λ h. digit_or_error b (i + 1) low >>= (λ l. Ok (h * 16 + l)))) >>= (λ byte. decoded >>= (λ bs. Ok (byte ∷ bs)))) ≡ Ok bytes
    → cons_some (if is_some high && is_some low then Some (16 * (16 * 0 + unwrap_or high 0) + unwrap_or low 0) else None) pairs ≡ Some bytes
same_pair a b i (Some h) (Some l) (Ok bs) pairs bytes rest e =
    let all : (h * 16 + l) ∷ bs ≡ bytes = ap (λ (r : Result (List ℕ) FromHexError). result_unwrap_or r []) e in
    let byte : 16 * (16 * 0 + h) + l ≡ h * 16 + l = omega arith in
    rw (rest bs refl, byte) (ap Some all)
same_pair a b i (Some h) (Some l) (Err f) pairs bytes rest e = cc e
same_pair a b i (Some h) None decoded pairs bytes rest e = cc e
same_pair a b i None low decoded pairs bytes rest e = cc e

-- what decodes is said by the pairs
pub pairs_of-decoded : (i : ℕ) (text bytes : List ℕ) → decode_pairs i text ≡ Ok bytes → pairs_of text ≡ Some bytes
unfolding decode_pairs
pairs_of-decoded i [] bytes e = ap Some (ap (λ (r : Result (List ℕ) FromHexError). result_unwrap_or r []) e)
pairs_of-decoded i (c ∷ []) bytes e = cc e
pairs_of-decoded i (a ∷ b ∷ rest) bytes e =
    same_pair a b i (hex_digit_value a) (hex_digit_value b) (decode_pairs (i + 2) rest) (pairs_of rest) bytes (pairs_of-decoded (i + 2) rest) e

decode_of-parts : (odd : Bool) (decoded : Result (List ℕ) FromHexError) (bytes : List ℕ)
    → (if odd then Err FromHexError.OddLength else decoded) ≡ Ok bytes → decoded ≡ Ok bytes
decode_of-parts true decoded bytes e = cc e
decode_of-parts false decoded bytes e = e

pub pairs_of-decode : (text bytes : List ℕ) → decode_of text ≡ Ok bytes → pairs_of text ≡ Some bytes
pairs_of-decode text bytes e = pairs_of-decoded 0 text bytes (decode_of-parts (length text % 2 == 1) (decode_pairs 0 text) bytes e)

some_pair : (high low all even : Bool) (byte : ℕ) (rest : Option (List ℕ)) → is_some rest ≡ (even && all)
    → is_some (cons_some (if high && low then Some byte else None) rest) ≡ (even && (high && (low && all)))
some_pair true true all even byte (Some bs) e = e
some_pair true true all even byte None e = e
some_pair true false all true byte rest e = refl
some_pair true false all false byte rest e = refl
some_pair false low all true byte rest e = refl
some_pair false low all false byte rest e = refl

-- pairs say bytes where the digits are even in number, and all are digits
pub some_pairs : (text : List ℕ) → is_some (pairs_of text) ≡ ((length text % 2 == 0) && list_all is_hex_digit text)
some_pairs [] = refl
some_pairs (c ∷ []) = refl
some_pairs (a ∷ b ∷ rest) =
    let even : length (a ∷ b ∷ rest) % 2 ≡ length rest % 2 = omega arith in
    rw even (some_pair (is_hex_digit a) (is_hex_digit b) (list_all is_hex_digit rest) (length rest % 2 == 0)
    (16 * (16 * 0 + unwrap_or (hex_digit_value a) 0) + unwrap_or (hex_digit_value b) 0) (pairs_of rest) (some_pairs rest))

minus_or_pairs : (minus : Bool) (text : List ℕ) → minus ≡ false → (if minus then Some [] else pairs_of text) ≡ pairs_of text
minus_or_pairs true text e = cc e
minus_or_pairs false text e = refl

-- a word that is no `-` says what its pairs say
pub bytes_of-pairs : (text : List ℕ) → bytes_eq text (codes "-") ≡ false → bytes_of text ≡ pairs_of text
bytes_of-pairs text e = minus_or_pairs _ text e

some_or_none : (o : Option (List ℕ)) → is_some o ≡ false → o ≡ None
some_or_none (Some bytes) e = cc e
some_or_none None e = refl

-- a word that says none
pub bytes_of-none : (text : List ℕ) → bytes_eq text (codes "-") ≡ false → is_some (pairs_of text) ≡ false → bytes_of text ≡ None
bytes_of-none text e none = bytes_of-pairs text e ∙ some_or_none (pairs_of text) none
