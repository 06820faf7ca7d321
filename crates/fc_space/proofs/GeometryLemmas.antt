-- Bounds of a geometry's numbers.
use Rattle.std.proofs.Common.{◌≡◌, ◌<◌, ◌≤◌, ℕ, ◌+◌, ◌-◌, ◌*◌, ◌/◌, ◌^◌, true, sym, ap, subst, arith}
use Rattle.std.proofs.Math.Nat.{div-le_self, pow-le-pow_right}
use Rattle.std.proofs.lemmas.Nat.{mul-le}
use Rattle.fc_record.specs.declared.Geometry.{Geometry}
use Rattle.fc_record.specs.declared.DiscRecord.{DiscRecord}
use Rattle.fc_record.specs.Record.{geometry, is_valid}
use Rattle.fc_newmap.specs.Map.{Map, ZoneRun, disc_bit, extent_of}
use Rattle.fc_newmap.specs.Walk.{IsInZone}
use Rattle.fc_newmap.proofs.ExtentLemmas.{bits_on_disc, bytes_fit}
use Rattle.fc_device.specs.declared.disk.Extent.{Extent}
use Rattle.fc_newmap.specs.NewMap.{IsNewMap, IsOfRecord}
use Rattle.fc_newmap.proofs.GeometryLemmas.{facts_of_valid}

-- a share unit has at most 2^25 bytes
pub share_of : (r : DiscRecord) → is_valid r ≡ true → r.log2_share < 16 → (geometry r).share ≤ 2 ^ 25
share_of r is low =
    let facts = facts_of_valid r is in
    let small : 2 ^ r.log2_sector ≤ 2 ^ 10 = pow-le-pow_right {n = 2} (omega arith) facts.sector_high in
    let few : 2 ^ r.log2_share ≤ 2 ^ 15 = pow-le-pow_right {n = 2} (omega arith) (let e : r.log2_share ≤ 15 = omega arith in e) in
    mul-le (2 ^ r.log2_sector) (2 ^ r.log2_share) (2 ^ 10) (2 ^ 15) small few

pub share_low : (g : Geometry) → IsOfRecord g → g.share ≤ 2 ^ 25
share_low g of_record = subst (λ (h : Geometry). h.share ≤ 2 ^ 25) of_record.1.1 (share_of of_record.0 of_record.1.0 of_record.1.2)

-- a low byte's place is a number of 64 bits
pub start_fits : (m : Map) (g : Geometry) (low sector : ℕ) → IsNewMap m → g ≡ m.geometry → low < 256 → (low - 1) * (g.share / sector) < 2 ^ 34
start_fits m g low sector is e few =
    let share : g.share ≤ 2 ^ 25 = subst (λ (h : Geometry). h.share ≤ 2 ^ 25) (sym e) (share_low m.geometry is.of_record) in
    let part : g.share / sector ≤ 2 ^ 25 = (let d = div-le_self g.share sector in omega arith) in
    let all : (low - 1) * (g.share / sector) ≤ 255 * 2 ^ 25 = mul-le (low - 1) (g.share / sector) 255 (2 ^ 25) (omega arith) part in
    omega arith

-- the sectors of a run are numbers of 64 bits
pub extent_fits : (g : Geometry) (p : ZoneRun) (extent : Extent) → IsOfRecord g → IsInZone g p → extent ≡ extent_of g p → extent.first + extent.sectors < 2 ^ 64
extent_fits g p extent is lies e =
    let on = bits_on_disc g p is lies in
    let begun = bytes_fit g (disc_bit g p) is (omega (arith, on)) in
    let long = bytes_fit g p.1.len is (omega (arith, on)) in
    let first = div-le_self (disc_bit g p * g.bit_bytes) g.sector in
    let sectors = div-le_self (p.1.len * g.bit_bytes) g.sector in
    omega (arith, ap (λ (x : Extent). x.first) e, ap (λ (x : Extent). x.sectors) e, begun, long, first, sectors)
