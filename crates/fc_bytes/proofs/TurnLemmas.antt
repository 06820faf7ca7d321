-- Words that are turned right by 13 of 32 bits, as the sum of a directory's check is.
use Rattle.std.proofs.Common.{◌≡◌, ◌<◌, ℕ, ◌+◌, ◌*◌, ◌/◌, ◌%◌, ◌^◌, bit_or, bit_xor, sym, ap, ap₂, ◌∙◌, arith}
use Rattle.std.specs.Int.{w32, rotate_right}
use Rattle.std.proofs.lemmas.Nat.{or_comm, or_shifted, xor_lt, xor_shr, xor_mod, xor_block}
use lib.Bits.{xor_assoc}
use Rattle.fc_bytes.specs.Checks.{accumulate}

abbrev turn : ℕ → ℕ
turn n = rotate_right w32 n 13

-- the lowest k bits above the other j
abbrev swapped : ℕ → ℕ → ℕ → ℕ
swapped k j n = n % 2 ^ k * 2 ^ j + n / 2 ^ k

joined : (n k j : ℕ) → n * 2 ^ j % 2 ^ 32 ≡ n % 2 ^ k * 2 ^ j → n / 2 ^ k < 2 ^ j → bit_or (n / 2 ^ k) (n * 2 ^ j % 2 ^ 32) ≡ swapped k j n
joined n k j high low =
    ap (bit_or (n / 2 ^ k)) high ∙ or_comm (n / 2 ^ k) (n % 2 ^ k * 2 ^ j) ∙ or_shifted (n % 2 ^ k) j (n / 2 ^ k) low

turned_13 : (n : ℕ) → n < 2 ^ 32 → turn n ≡ swapped 13 19 n
turned_13 n small = joined n 13 19 (omega arith) (omega arith)

turned_26 : (n : ℕ) → n < 2 ^ 32 → rotate_right w32 n 26 ≡ swapped 26 6 n
turned_26 n small = joined n 26 6 (omega arith) (omega arith)

turned_39 : (n : ℕ) → n < 2 ^ 32 → rotate_right w32 n 39 ≡ swapped 7 25 n
turned_39 n small = joined n 7 25 (omega arith) (omega arith)

turned_52 : (n : ℕ) → n < 2 ^ 32 → rotate_right w32 n 52 ≡ swapped 20 12 n
turned_52 n small = joined n 20 12 (omega arith) (omega arith)

turn_below : (n : ℕ) → n < 2 ^ 32 → turn n < 2 ^ 32
turn_below n small = rw (turned_13 n small) (omega arith)

-- a number that is turned once more
turned_again : (n m : ℕ) → n < 2 ^ 32 → n ≡ m → turn n ≡ swapped 13 19 m
turned_again n m small same = turned_13 n small ∙ ap (swapped 13 19) same

twice : (n : ℕ) → n < 2 ^ 32 → rotate_right w32 n 26 ≡ turn (turn n)
twice n small = turned_26 n small ∙ omega arith ∙ sym (turned_again (turn n) _ (turn_below n small) (turned_13 n small))

thrice : (n : ℕ) → n < 2 ^ 32 → rotate_right w32 n 39 ≡ turn (turn (turn n))
thrice n small =
    turned_39 n small ∙ omega arith
    ∙ sym (turned_again (turn (turn n)) _ (turn_below (turn n) (turn_below n small)) (sym (twice n small) ∙ turned_26 n small))

four_times : (n : ℕ) → n < 2 ^ 32 → rotate_right w32 n 52 ≡ turn (turn (turn (turn n)))
four_times n small =
    turned_52 n small ∙ omega arith
    ∙ sym (turned_again (turn (turn (turn n))) _ (turn_below (turn (turn n)) (turn_below (turn n) (turn_below n small))) (sym (thrice n small) ∙ turned_39 n small))

turn-xor : (a b : ℕ) → a < 2 ^ 32 → b < 2 ^ 32 → turn (bit_xor a b) ≡ bit_xor (turn a) (turn b)
turn-xor a b small_a small_b =
    turned_13 (bit_xor a b) (xor_lt 32 a b small_a small_b)
    ∙ ap₂ (λ (low high : ℕ). low * 2 ^ 19 + high) (xor_mod a b 13) (xor_shr a b 13)
    ∙ sym (xor_block 19 (a % 2 ^ 13) (b % 2 ^ 13) (a / 2 ^ 13) (b / 2 ^ 13) (omega arith) (omega arith))
    ∙ sym (ap₂ bit_xor (turned_13 a small_a) (turned_13 b small_b))

-- four words are taken in at once if each is turned as often as words come after it
pub taken_four : (sum a b c d : ℕ) → sum < 2 ^ 32 → a < 2 ^ 32 → b < 2 ^ 32 → c < 2 ^ 32
    → bit_xor (bit_xor (bit_xor (bit_xor d (rotate_right w32 c 13)) (rotate_right w32 b 26)) (rotate_right w32 a 39)) (rotate_right w32 sum 52)
    ≡ accumulate (accumulate (accumulate (accumulate sum a) b) c) d
taken_four sum a b c d small small_a small_b small_c =
    let s1 = turn sum in
    let s2 = turn s1 in
    let s3 = turn s2 in
    let a1 = turn a in
    let a2 = turn a1 in
    let b1 = turn b in
    let b2 = turn b1 in
    let below_s2 = turn_below s1 (turn_below sum small) in
    let below_s3 = turn_below s2 below_s2 in
    let below_a1 = turn_below a small_a in
    let below_a2 = turn_below a1 below_a1 in
    let below_b1 = turn_below b small_b in
    let two = xor_lt 32 a1 s2 below_a1 below_s2 in
    let three = xor_lt 32 a2 s3 below_a2 below_s3 in
    let first = turn-xor a s1 small_a (turn_below sum small) in
    let second = ap (λ n. turn (bit_xor b n)) first ∙ turn-xor b (bit_xor a1 s2) small_b two ∙ ap (bit_xor b1) (turn-xor a1 s2 below_a1 below_s2) in
    let third =
    ap (λ n. turn (bit_xor c n)) second ∙ turn-xor c (bit_xor b1 (bit_xor a2 s3)) small_c (xor_lt 32 b1 (bit_xor a2 s3) below_b1 three)
    ∙ ap (bit_xor (turn c)) (turn-xor b1 (bit_xor a2 s3) below_b1 three ∙ ap (bit_xor b2) (turn-xor a2 s3 below_a2 below_s3)) in
    rw (twice b small_b, thrice a small_a, four_times sum small)
    (xor_assoc (bit_xor (bit_xor d (turn c)) b2) (turn a2) (turn s3) ∙ xor_assoc (bit_xor d (turn c)) b2 (bit_xor (turn a2) (turn s3))
    ∙ xor_assoc d (turn c) (bit_xor b2 (bit_xor (turn a2) (turn s3))) ∙ ap (bit_xor d) (sym third))
