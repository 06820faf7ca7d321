-- What std reads of the digits of numbers.
use Rattle.std.proofs.Common.{◌≡◌, ◌<◌, ◌^◌, ◌+◌, ◌*◌, ◌-◌, ◌==◌, ◌&&◌, ℕ, Bool, true, false, refl, subst, eq-eqb, arith, List, [], ◌∷◌, length, unwrap_or, nat_lt}
use Rattle.std.proofs.lemmas.Bool.{ltb-true, lt-ltb, and_parts as both}
use Rattle.std.proofs.lemmas.Bool.Decides.{nat_tests}
use Rattle.std.proofs.lemmas.Int.Digits.{digits_value-lt}
use Rattle.std.specs.Char.{digit_value}
use Rattle.std.specs.List.{fold, list_all}
use Rattle.std.specs.Str.Parse.{AllDigits, IsNumeral, digits_value, digits_value_after}
use Rattle.hex.specs.Hex.{hex_digit_value, is_hex_digit}
use Rattle.fc_script.specs.Words.{number_of}
use Rattle.fc_script.specs.Lines.{is_decimal, is_digit, is_some_word, length_of, word_of}

hex_small : (c : ℕ) → is_hex_digit c ≡ true → digit_value c < 16
hex_small c e = grind (arith, nat_tests)

hex_same : (c : ℕ) → is_hex_digit c ≡ true → unwrap_or (hex_digit_value c) 0 ≡ digit_value c
hex_same c e = grind (arith, nat_tests)

hex_digits : (ds : List ℕ) → list_all is_hex_digit ds ≡ true → AllDigits 16 ds
hex_digits [] e = tt
hex_digits (c ∷ cs) e = let parts = both _ _ e in (hex_small c parts.0, hex_digits cs parts.1)

hex_after : (n : ℕ) (ds : List ℕ) → list_all is_hex_digit ds ≡ true
    → fold (λ m c. 16 * m + unwrap_or (hex_digit_value c) 0) n ds ≡ digits_value_after 16 n ds
hex_after n [] e = refl
hex_after n (c ∷ cs) e =
    let parts : (_ ≡ true) × (_ ≡ true) = both _ _ e in
    let same = hex_same c parts.0 in
    let next : 16 * n + unwrap_or (hex_digit_value c) 0 ≡ n * 16 + digit_value c = omega (arith, same) in
    rw next (hex_after (n * 16 + digit_value c) cs parts.1)

digit_small : (c : ℕ) → is_digit c ≡ true → digit_value c < 10
digit_small c e = grind (arith, nat_tests)

digit_same : (c : ℕ) → is_digit c ≡ true → c - 48 ≡ digit_value c
digit_same c e = grind (arith, nat_tests)

decimal_digits : (ds : List ℕ) → list_all is_digit ds ≡ true → AllDigits 10 ds
decimal_digits [] e = tt
decimal_digits (c ∷ cs) e = let parts = both _ _ e in (digit_small c parts.0, decimal_digits cs parts.1)

decimal_after : (n : ℕ) (ds : List ℕ) → list_all is_digit ds ≡ true
    → fold (λ m c. 10 * m + (c - 48)) n ds ≡ digits_value_after 10 n ds
decimal_after n [] e = refl
decimal_after n (c ∷ cs) e =
    let parts : (_ ≡ true) × (_ ≡ true) = both _ _ e in
    let same = digit_same c parts.0 in
    let next : 10 * n + (c - 48) ≡ n * 10 + digit_value c = omega (arith, same) in
    rw next (decimal_after (n * 10 + digit_value c) cs parts.1)

pub word_numeral : (text : List ℕ) → length text ≡ 8 → list_all is_hex_digit text ≡ true → IsNumeral 16 text
word_numeral text size e = (omega (arith, size), hex_digits text e)

pub word_of-is : (text : List ℕ) → length text ≡ 8 → list_all is_hex_digit text ≡ true → number_of 16 text ≡ word_of text
word_of-is text size e =
    let small : digits_value 16 text < 16 ^ 8 = subst (λ n. digits_value 16 text < 16 ^ n) size (digits_value-lt 16 text (hex_digits text e)) in
    let fits : nat_lt (digits_value 16 text) (2 ^ 32) ≡ true = lt-ltb _ _ small in
    let eight : (length text == 8) ≡ true = eq-eqb _ _ size in
    rw (fits, eight, e, hex_after 0 text e) refl

decimal_parts : (text : List ℕ) → is_decimal text ≡ true → (is_some_word text ≡ true) × (list_all is_digit text ≡ true)
decimal_parts text e = let outer = both _ _ e in both _ _ outer.0

pub decimal_numeral : (text : List ℕ) → is_decimal text ≡ true → IsNumeral 10 text
decimal_numeral text e = let parts = decimal_parts text e in (ltb-true _ _ parts.0, decimal_digits text parts.1)

pub length_of-is : (text : List ℕ) → is_decimal text ≡ true → number_of 10 text ≡ length_of text
length_of-is text e = rw (e, decimal_after 0 text (decimal_parts text e).1) refl
