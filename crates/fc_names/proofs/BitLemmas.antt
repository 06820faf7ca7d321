-- A flag is the bit at its place.
use Rattle.std.proofs.Common.{◌≡◌, ◌*◌, ◌==◌, ℕ, arith, ◌∙◌, ap}
use Rattle.std.specs.Int.{bit_at}
use Rattle.std.specs.Int.Bits.{bit_and}
use Rattle.std.proofs.lemmas.Bool.Decides.{Decides-eqb, same_from_decides}
use Rattle.std.proofs.lemmas.Nat.Bits.{and_pow}

four_times : (b : ℕ) → (b * 4 == 4) ≡ (b == 1)
four_times b =
    let four = Decides-eqb (b * 4) 4 in
    let one = Decides-eqb b 1 in
    same_from_decides (b * 4 == 4) (b == 1) four (
      λ h. let e : b ≡ 1 = one.0 h in omega arith,
      λ h. let e : b ≡ 1 = omega arith in one.1 e,
    )

eight_times : (b : ℕ) → (b * 8 == 8) ≡ (b == 1)
eight_times b =
    let eight = Decides-eqb (b * 8) 8 in
    let one = Decides-eqb b 1 in
    same_from_decides (b * 8 == 8) (b == 1) eight (
      λ h. let e : b ≡ 1 = one.0 h in omega arith,
      λ h. let e : b ≡ 1 = omega arith in one.1 e,
    )

pub flag_2 : (n : ℕ) → (bit_and n 4 == 4) ≡ (bit_at n 2 == 1)
flag_2 n = ap (λ b. b == 4) (and_pow n 2) ∙ four_times (bit_at n 2)

pub flag_3 : (n : ℕ) → (bit_and n 8 == 8) ≡ (bit_at n 3 == 1)
flag_3 n = ap (λ b. b == 8) (and_pow n 3) ∙ eight_times (bit_at n 3)
