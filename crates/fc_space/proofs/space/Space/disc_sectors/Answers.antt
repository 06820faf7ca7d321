use Rattle.std.proofs.Common.{ap, arith}
use Rattle.fc_space.proofs.DiscLemmas.{disc_low}
use Rattle.fc_space.proofs.space.Space.disc_sectors.Goals as goal

pub overflow_mul-result : goal.overflow_mul-result
overflow_mul-result c =
    let g = c.geometry-g.result.now in
    let low = disc_low c.in-NewMapped.map c.geometry-g.ensures.map g.disc_bits g.bit_bytes 1 (ap (λ h. h.disc_bits) c.geometry-g.ensures.value) (ap (λ h. h.bit_bytes) c.geometry-g.ensures.value) in
    omega (arith, low.0)

pub returns-in-NewMapped-clause-few : goal.returns-in-NewMapped-clause-few
returns-in-NewMapped-clause-few c =
    let g = c.geometry-g.result.now in
    (disc_low c.in-NewMapped.map c.geometry-g.ensures.map g.disc_bits g.bit_bytes c.from-in-NewMapped.result (ap (λ h. h.disc_bits) c.geometry-g.ensures.value) (ap (λ h. h.bit_bytes) c.geometry-g.ensures.value)).1
