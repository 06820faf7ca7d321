-- A row of sectors of 256 bytes by its bytes.
use Rattle.std.proofs.Common.{◌≡◌, ℕ, ◌*◌, List, take, drop, ◌∙◌, ap, arith}
use Rattle.fc_bytes.specs.Words.{bytes_at}
use Rattle.fc_device.specs.Sectors.{row_at}

pub row_bytes : (size first count long : ℕ) (image : List ℕ) → size ≡ 256 → long ≡ count * size → row_at size image first count ≡ bytes_at image (256 * first) long
unfolding row_at
row_bytes size first count long image is long_is =
    let at : first * size ≡ 256 * first = ap (λ (k : ℕ). first * k) is ∙ (omega arith) in
    ap (λ (k : ℕ). take (count * size) (drop k image)) at ∙ ap (λ (k : ℕ). take k (drop (256 * first) image)) (omega (arith, long_is))
