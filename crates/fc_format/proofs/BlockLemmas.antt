-- Blocks whose last byte is their check.
use Rattle.std.proofs.Common.{◌≡◌, ℕ, ◌+◌, ◌%◌, List, [], ◌∷◌, ◌++◌, length, drop, slice_set, sym, ap, ◌∙◌, arith, append_assoc, length-append}
use Rattle.std.proofs.lemmas.List.{set_at, take-append-le}
use Rattle.fc_bytes.specs.Bits.{overwritten}
use Rattle.fc_bytes.specs.Checks.{boot_check, carry_sum}
use Rattle.fc_format.specs.Fresh.{boot_block, zeros}

-- the boot block of a record, with this as its last byte
abbrev block_with : List ℕ → ℕ → List ℕ
block_with r last = zeros 448 ++ r ++ zeros 3 ++ last ∷ []

unchecked-block : (r : List ℕ) → length r ≡ 60 → overwritten (zeros 512) 448 r ≡ block_with r 0
unchecked-block r long =
    sym (append_assoc (zeros 448) r (drop (448 + length r) (zeros 512)))
    ∙ ap (λ (n : ℕ). zeros 448 ++ r ++ drop (448 + n) (zeros 512)) long
    ∙ sym (append_assoc (zeros 448 ++ r) (zeros 3) (0 ∷ []))

pub boot_laid : (r block : List ℕ) (check : ℕ) → length r ≡ 60 → block ≡ overwritten (zeros 512) 448 r → check ≡ boot_check block → slice_set block 511 check ≡ boot_block r
boot_laid r block check long laid is =
    let whole : block ≡ block_with r 0 = laid ∙ unchecked-block r long in
    let size : length (zeros 448 ++ r ++ zeros 3) ≡ 511 = omega (arith, long, length-append (zeros 448 ++ r) (zeros 3), length-append (zeros 448) r) in
    let same : boot_check block ≡ boot_check (zeros 448 ++ r ++ zeros 3) =
    ap boot_check whole ∙ ap (λ (l : List ℕ). carry_sum 256 0 l % 256) (take-append-le 511 (zeros 448 ++ r ++ zeros 3) (0 ∷ []) (omega (arith, size))) in
    ap (λ (l : List ℕ). slice_set l 511 check) whole ∙ set_at (zeros 448 ++ r ++ zeros 3) 0 [] check 511 size ∙ ap (block_with r) (is ∙ same)
