-- How large the numbers are that follow from a record.
use Rattle.std.proofs.Common.{◌≡◌, ℕ, zero, suc, ◌+◌, ◌-◌, ◌*◌, ◌/◌, ◌%◌, ◌^◌, ◌<◌, ◌≤◌, Bool, true, false, cond, slice_index, sym, ap, subst, arith}
use Rattle.std.specs.Prelude.{◌&&◌, nat_le}
use Rattle.std.proofs.Math.Nat.{pow-le-pow_right, div-le_self}
use Rattle.std.proofs.lemmas.Nat.{mul-le}
use Rattle.std.proofs.lemmas.Bool.{leb-true, ne_eqb}
use Rattle.fc_record.specs.declared.DiscRecord.{DiscRecord}
use Rattle.fc_record.specs.declared.Geometry.{Geometry}
use Rattle.fc_record.specs.Record.{geometry, zone_start, IsRecord}
use Rattle.fc_record.proofs.FaultLemmas.{valid_meets}
use Rattle.fc_record.proofs.KindLemmas.{and_second as second_part}

start_small : (size z : ℕ) → size ≤ 2 ^ 13 → z ≤ 2 ^ 15 → zone_start size z ≤ 2 ^ 28
start_small size zero h k = omega arith
start_small size (suc z) h k =
    let at : zone_start size (suc z) ≡ suc z * size - 480 = ap (λ b. cond b 0 (suc z * size - 480)) (ne_eqb (suc z) 0 (omega arith)) in
    let most : suc z * size ≤ 2 ^ 28 = mul-le (suc z) size (2 ^ 15) (2 ^ 13) k h in omega arith

bit_small : (log2 : ℕ) → log2 ≤ 20 → 2 ^ log2 ≤ 2 ^ 20
bit_small log2 h = pow-le-pow_right {n = 2} (omega arith) h

-- the place of the map in bytes
place_small : (size z log2 : ℕ) → size ≤ 2 ^ 13 → z ≤ 2 ^ 15 → log2 ≤ 20 → zone_start size z * 2 ^ log2 ≤ 2 ^ 48
place_small size z log2 h k l = mul-le (zone_start size z) (2 ^ log2) (2 ^ 28) (2 ^ 20) (start_small size z h k) (bit_small log2 l)

-- as a number of 64 bits
pub place_fits : (size z log2 start bit : ℕ) → size ≤ 2 ^ 13 → z ≤ 2 ^ 15 → log2 ≤ 20 → start ≡ zone_start size z → bit ≡ 1 * 2 ^ log2 % 2 ^ 64 → start * bit < 2 ^ 64
place_fits size z log2 start bit h k l s b =
    let whole : bit ≡ 2 ^ log2 = omega (arith, bit_small log2 l) in
    rw (s, whole) (omega (arith, place_small size z log2 h k l))

pub sector_small : (log2 : ℕ) → log2 ≤ 10 → 2 ^ log2 ≤ 2 ^ 10
sector_small log2 h = pow-le-pow_right {n = 2} (omega arith) h

-- the map's sector, and its end in bytes
pub map_sector_small : (r : DiscRecord) → r.log2_sector ≤ 10 → r.log2_bit ≤ 20 → r.zones < 2 ^ 16 → (geometry r).map_sector ≤ 2 ^ 48
map_sector_small r s b z =
    let size : 8 * 2 ^ r.log2_sector - r.spare ≤ 2 ^ 13 = omega (arith, sector_small r.log2_sector s) in
    let half : r.zones / 2 ≤ 2 ^ 15 = omega arith in
    let place = place_small (8 * 2 ^ r.log2_sector - r.spare) (r.zones / 2) r.log2_bit size half b in
    let less = div-le_self (zone_start (8 * 2 ^ r.log2_sector - r.spare) (r.zones / 2) * 2 ^ r.log2_bit) (2 ^ r.log2_sector) in
    omega (arith, place, less)

pub map_end_fits : (r : DiscRecord) (g : Geometry) (zones sector : ℕ) → g ≡ geometry r → r.log2_sector ≤ 10 → r.log2_bit ≤ 20 → r.zones < 2 ^ 16 → zones ≡ r.zones
    → sector ≡ g.sector → (g.map_sector + 2 * zones < 2 ^ 49) × ((g.map_sector + 2 * zones) * sector < 2 ^ 64)
map_end_fits r g zones sector is s b z zones_is sector_is =
    let first : g.map_sector ≤ 2 ^ 48 = subst (λ (h : Geometry). h.map_sector ≤ 2 ^ 48) (sym is) (map_sector_small r s b z) in
    let low : g.map_sector + 2 * zones ≤ 2 ^ 49 - 1 = omega arith in
    let small : sector ≤ 2 ^ 10 = rw sector_is (subst (λ (h : Geometry). h.sector ≤ 2 ^ 10) (sym is) (sector_small r.log2_sector s)) in
    let most = mul-le (g.map_sector + 2 * zones) sector (2 ^ 49 - 1) (2 ^ 10) low small in
    (omega arith, omega (arith, most))

pub sector_valid : (r : DiscRecord) → IsRecord r → r.log2_sector ≤ 10
sector_valid r is = leb-true r.log2_sector 10 (second_part (nat_le 8 r.log2_sector) (nat_le r.log2_sector 10) (valid_meets r is.valid).sector)

pub bit_valid : (r : DiscRecord) → IsRecord r → r.log2_bit ≤ 20
bit_valid r is = leb-true r.log2_bit 20 (second_part (nat_le 5 r.log2_bit) (nat_le r.log2_bit 20) (valid_meets r is.valid).bit)

pub share_valid : (r : DiscRecord) → IsRecord r → r.log2_share < 16
share_valid r is = let read : r.log2_share ≡ slice_index r.raw 40 % 16 = ap (λ (s : DiscRecord). s.log2_share) is.from_raw in omega arith
