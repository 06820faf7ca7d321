-- Bounds of sums over maps, which numbers of 64 bits hold.
use Rattle.std.proofs.Common.{◌≡◌, ◌<◌, ◌≤◌, ℕ, ◌+◌, ◌-◌, ◌*◌, ◌^◌, ◌==◌, Bool, true, false, cond, List, [], ◌∷◌, refl, arith}
use Rattle.std.proofs.lemmas.Bool.{eqb-true}
use Rattle.std.proofs.lemmas.Nat.{mul-le}
use Rattle.std.proofs.lemmas.List.Sums.{sum_by-cons}
use native.Mathlib.Nat.{mul_assoc}
use Rattle.fc_record.specs.declared.Geometry.{Geometry}
use Rattle.fc_record.specs.Record.{zone_start}
use Rattle.fc_oldmap.specs.declared.Hole.{Hole}
use Rattle.fc_oldmap.specs.Holes.{AreHoles, hole_end, hole_sum}
use Rattle.fc_newmap.specs.NewMap.{IsOfRecord}
use Rattle.fc_newmap.proofs.HeldLemmas.{geometry_facts}

-- the holes of an old map lie on its disc
pub holes_low : (disc units floor : ℕ) (holes : List Hole) → AreHoles disc units floor holes → hole_sum holes ≤ disc
holes_low disc units floor [] a = omega arith
holes_low disc units floor (h ∷ holes) a = let b = above (hole_end h) holes a.1 a.0.inside in let all = sum_by-cons (λ (g : Hole). g.len) h holes in omega arith
  where
    above : (from : ℕ) (gs : List Hole) → AreHoles disc units from gs → from ≤ disc → from + hole_sum gs ≤ disc
    above from [] b low = omega arith
    above from (g ∷ gs) b low =
        let rest = above (hole_end g) gs b.1 b.0.inside in
        let on = b.0.onward in
        let all = sum_by-cons (λ (k : Hole). k.len) g gs in
        omega arith

zones_few : (zones size disc : ℕ) → 1 ≤ zones → 480 ≤ size → zone_start size (zones - 1) < disc → 480 * zones ≤ disc + 960
zones_few zones size disc some room begun = by (zones - 1 == 0) refl begun
  where
    by : (b : Bool) → (zones - 1 == 0) ≡ b → cond b 0 ((zones - 1) * size - 480) < disc → 480 * zones ≤ disc + 960
    by true e low = let one = eqb-true (zones - 1) 0 e in omega arith
    by false e low = let more : (zones - 1) * 480 ≤ (zones - 1) * size = mul-le (zones - 1) 480 (zones - 1) size (omega arith) room in omega (arith, more)

-- the bytes of all bits of all zones fit
pub bytes_fit : (g : Geometry) (n : ℕ) → IsOfRecord g → n ≤ 8192 * g.zones → n * g.bit_bytes < 2 ^ 64
bytes_fit g n is low =
    let f = geometry_facts g is in
    let zones = zones_few g.zones g.zone_size g.disc_bits f.zones f.room f.begun in
    let begun = f.begun in
    let bits : n ≤ 32768 * g.disc_bits = omega (arith, zones, begun) in
    let bytes : n * g.bit_bytes ≤ 32768 * g.disc_bits * g.bit_bytes = mul-le n g.bit_bytes (32768 * g.disc_bits) g.bit_bytes bits (omega arith) in
    let turned : 32768 * g.disc_bits * g.bit_bytes ≡ 32768 * (g.disc_bits * g.bit_bytes) = mul_assoc 32768 g.disc_bits g.bit_bytes in
    omega (arith, f.bytes, bytes, turned)
