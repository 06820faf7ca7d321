use Rattle.std.proofs.Common.{◌≤◌, ◌^◌, inl, inr, arith}
use Rattle.std.proofs.lemmas.Nat.{mul-le}
use Rattle.fc_check.proofs.SumLemmas.{left_low}
use Rattle.fc_space.proofs.SumLemmas.{holes_low}
use Rattle.fc_check.proofs.space.old_counts.Goals as goal

pub free_units-free-requires : goal.free_units-free-requires
free_units-free-requires c =
    let m = c.args.map.now in
    let low = holes_low m.disc_units m.sector_units 0 m.holes c.holes.ensures.map.holes in
    rw c.holes.ensures.holes (omega (arith, low, c.holes.ensures.map.disc))

pub overflow_mul-result-2 : goal.overflow_mul-result-2
overflow_mul-result-2 c =
    let low = left_low c.from-2.result c.args.owners.now in
    let few : c.left_by.result ≤ 2 ^ 32 = omega (arith, low, c.left_by.ensures, c.from-2.ensures, c.saturating_sub-unfree.type_inv) in
    let bytes : c.from-3.result ≤ 1024 =
    elim c.sector_units-units.ensures.units [ inl one ↦ omega (arith, c.from-3.ensures, one) | inr four ↦ omega (arith, c.from-3.ensures, four) ] in
    let product = mul-le c.left_by.result c.from-3.result (2 ^ 32) 1024 few bytes in
    omega (arith, product)
