-- Maps in which each zone has runs.
use Rattle.std.proofs.Common.{◌≡◌, ◌<◌, ◌≤◌, ℕ, zero, suc, ◌+◌, ◌*◌, List, [], ◌∷◌, length, refl, sym, ap, subst, ◌∙◌, arith, None, Some}
use Rattle.std.specs.Prelude.{Result, Ok, Err, slice_index_or}
use Rattle.std.specs.List.{range_with_len, zip}
use Rattle.fc_bytes.specs.Bits.{bits}
use Rattle.fc_bytes.specs.BitLaws.{AreBits-bits, length-bits}
use Rattle.fc_record.specs.declared.Geometry.{Geometry}
use Rattle.fc_record.specs.Record.{end_bit}
use Rattle.fc_zone.specs.declared.Run.{Run}
use Rattle.fc_zone.specs.declared.ZoneFault.{ZoneFault}
use Rattle.fc_zone.specs.Zone.{Zone}
use Rattle.fc_zone.specs.Reading.{in_zone, zone_of, runs_of as read_runs, runs_or_none}
use Rattle.fc_zone.proofs.ReadingLemmas.{runs_from-Right, Zone-zone_of, in_zone-Ok}
use Rattle.fc_newmap.specs.Map.{Map, IsMap, shape, sector_of, runs_of, zone_numbers, first_fault, fault_or}
use Rattle.fc_newmap.specs.RunsLaw.{HasZones}

-- where the zone's bits lie in the sector
zone_read : (g : Geometry) (z : ℕ) (sector : List ℕ) (runs : List Run) → end_bit g z ≤ 8 * length sector → zone_of (shape g z) sector ≡ Ok runs → Zone (shape g z) sector runs
zone_read g z sector runs within e =
    let both = runs_from-Right (shape g z) (bits sector) (AreBits-bits sector) (omega (arith, length-bits sector)) _ (shape g z).first _ runs (in_zone-Ok z _ runs e) in
    record { spelled = both.0; chained = both.1 }

pub zones_of_map : (m : Map) → IsMap m → ((z : ℕ) → z < m.geometry.zones → end_bit m.geometry z ≤ 8 * m.geometry.sector) → HasZones m
unfolding read_runs
zones_of_map m is within z low =
    let all = is.all in
    let r = is.right z (omega arith) in
    let runs : r.0 ≡ runs_of m z = ap (λ (q : Result (List Run) ZoneFault). runs_or_none q) (sym r.1) in
    subst (λ (rs : List Run). Zone (shape m.geometry z) (sector_of m z) rs) runs (zone_read m.geometry z (sector_of m z) r.0 (omega (arith, within z low, is.whole z (omega arith))) r.1)

no_fault : (g : Geometry) (zones : List (List ℕ)) (from n : ℕ) → length zones ≡ n → first_fault g (zip (range_with_len from n) zones) ≡ None
    → (i : ℕ) → i < n → (runs : List Run) × (zone_of (shape g (from + i)) (slice_index_or zones i []) ≡ Ok runs)
no_fault g [] from n e h i low = absurd (omega arith)
no_fault g (sector ∷ zones) from zero e h i low = absurd (omega arith)
no_fault g (sector ∷ zones) from (suc n) e h i low = by (zone_of (shape g from) sector) refl h i low (no_fault g zones (from + 1) n (omega arith))
  where
    by : (r : Result (List Run) ZoneFault) → zone_of (shape g from) sector ≡ r → fault_or r (first_fault g (zip (range_with_len (from + 1) n) zones)) ≡ None → (j : ℕ) → j < suc n
        → (first_fault g (zip (range_with_len (from + 1) n) zones) ≡ None → (k : ℕ) → k < n → (runs : List Run) × (zone_of (shape g (from + 1 + k)) (slice_index_or zones k []) ≡ Ok runs))
        → (runs : List Run) × (zone_of (shape g (from + j)) (slice_index_or (sector ∷ zones) j []) ≡ Ok runs)
    by (Ok runs) f h' zero below more = (runs, subst (λ (z : ℕ). zone_of (shape g z) sector ≡ Ok runs) (let k : from ≡ from + zero = omega arith in k) f)
    by (Ok runs) f h' (suc j) below more =
        let r = more h' j (omega arith) in
        (r.0, subst (λ (z : ℕ). zone_of (shape g z) (slice_index_or zones j []) ≡ Ok r.0) (let k : from + 1 + j ≡ from + suc j = omega arith in k) r.1)
    by (Err fault) f h' j below more = absurd (cc)

pub map_of_no_fault : (m : Map) → length m.zones ≡ m.geometry.zones → ((z : ℕ) → z < m.geometry.zones → length (sector_of m z) ≡ m.geometry.sector)
    → first_fault m.geometry (zip (zone_numbers m.geometry) m.zones) ≡ None → IsMap m
map_of_no_fault m e whole h = record {
  all = e;
  whole = λ z low. whole z (omega arith);
  right = λ z low.
      (let r = no_fault m.geometry m.zones 0 m.geometry.zones e h z (omega arith) in
      (r.0, subst (λ (k : ℕ). zone_of (shape m.geometry k) (sector_of m z) ≡ Ok r.0) (let k : 0 + z ≡ z = omega arith in k) r.1));
}

right_zones : (g : Geometry) (zones : List (List ℕ)) (from n : ℕ) → ((i : ℕ) → i < n → (runs : List Run) × (zone_of (shape g (from + i)) (slice_index_or zones i []) ≡ Ok runs))
    → first_fault g (zip (range_with_len from n) zones) ≡ None
right_zones g zones from zero each = nothing zones
  where
    nothing : (zs : List (List ℕ)) → first_fault g (zip [] zs) ≡ None
    nothing [] = refl
    nothing (z ∷ zs) = refl
right_zones g [] from (suc n) each = refl
right_zones g (sector ∷ zones) from (suc n) each =
    let here = each 0 (omega arith) in
    let is : zone_of (shape g from) sector ≡ Ok here.0 = subst (λ (z : ℕ). zone_of (shape g z) sector ≡ Ok here.0) (let k : from + 0 ≡ from = omega arith in k) here.1 in
    rw is (right_zones g zones (from + 1) n (λ i low.
    let r = each (suc i) (omega arith) in
    (r.0, subst (λ (z : ℕ). zone_of (shape g z) (slice_index_or zones i []) ≡ Ok r.0) (let k : from + suc i ≡ from + 1 + i = omega arith in k) r.1)))

pub no_fault_of_right : (m : Map) → ((z : ℕ) → z < m.geometry.zones → (runs : List Run) × (zone_of (shape m.geometry z) (sector_of m z) ≡ Ok runs))
    → first_fault m.geometry (zip (zone_numbers m.geometry) m.zones) ≡ None
no_fault_of_right m right =
    right_zones m.geometry m.zones 0 m.geometry.zones (λ i low.
    let r = right i low in
    (r.0, subst (λ (k : ℕ). zone_of (shape m.geometry k) (sector_of m i) ≡ Ok r.0) (let k : i ≡ 0 + i = omega arith in k) r.1))

pub no_fault_of_map : (m : Map) → IsMap m → first_fault m.geometry (zip (zone_numbers m.geometry) m.zones) ≡ None
no_fault_of_map m is = let all = is.all in no_fault_of_right m (λ z low. is.right z (omega arith))

-- the first zone with a fault, where those before it have none
fault_from : (g : Geometry) (zones : List (List ℕ)) (from n k : ℕ) (fault : ZoneFault) → length zones ≡ n → k < n
    → ((i : ℕ) → i < k → (runs : List Run) × (zone_of (shape g (from + i)) (slice_index_or zones i []) ≡ Ok runs)) → zone_of (shape g (from + k)) (slice_index_or zones k []) ≡ Err fault
    → first_fault g (zip (range_with_len from n) zones) ≡ Some fault
fault_from g [] from n k fault e low each is = absurd (omega arith)
fault_from g (sector ∷ zones) from zero k fault e low each is = absurd (omega arith)
fault_from g (sector ∷ zones) from (suc n) zero fault e low each is =
    let here : zone_of (shape g from) sector ≡ Err fault = subst (λ (z : ℕ). zone_of (shape g z) sector ≡ Err fault) (let j : from + 0 ≡ from = omega arith in j) is in
    ap (λ (r : Result (List Run) ZoneFault). fault_or r (first_fault g (zip (range_with_len (from + 1) n) zones))) here
fault_from g (sector ∷ zones) from (suc n) (suc k) fault e low each is =
    let first = each 0 (omega arith) in
    let here : zone_of (shape g from) sector ≡ Ok first.0 = subst (λ (z : ℕ). zone_of (shape g z) sector ≡ Ok first.0) (let j : from + 0 ≡ from = omega arith in j) first.1 in
    ap (λ (r : Result (List Run) ZoneFault). fault_or r (first_fault g (zip (range_with_len (from + 1) n) zones))) here
    ∙ fault_from g zones (from + 1) n k fault (omega arith) (omega arith)
    (λ i below. let r = each (suc i) (omega arith) in (r.0, subst (λ (z : ℕ). zone_of (shape g z) (slice_index_or zones i []) ≡ Ok r.0) (let j : from + suc i ≡ from + 1 + i = omega arith in j) r.1))
    (subst (λ (z : ℕ). zone_of (shape g z) (slice_index_or zones k []) ≡ Err fault) (let j : from + suc k ≡ from + 1 + k = omega arith in j) is)

pub fault_of_zone : (m : Map) (z : ℕ) (fault : ZoneFault) → length m.zones ≡ m.geometry.zones → z < m.geometry.zones
    → ((k : ℕ) → k < z → Zone (shape m.geometry k) (sector_of m k) (runs_of m k)) → zone_of (shape m.geometry z) (sector_of m z) ≡ Err fault
    → first_fault m.geometry (zip (zone_numbers m.geometry) m.zones) ≡ Some fault
fault_of_zone m z fault long low each is =
    fault_from m.geometry m.zones 0 m.geometry.zones z fault long low
    (λ i below. (runs_of m i, subst (λ (k : ℕ). zone_of (shape m.geometry k) (sector_of m i) ≡ Ok (runs_of m i)) (let j : i ≡ 0 + i = omega arith in j) (Zone-zone_of (shape m.geometry i) (sector_of m i) (runs_of m i) (each i below))))
    (subst (λ (k : ℕ). zone_of (shape m.geometry k) (sector_of m z) ≡ Err fault) (let j : z ≡ 0 + z = omega arith in j) is)

-- a map whose zones have runs has no fault
pub no_fault_of_zones : (m : Map) → HasZones m → first_fault m.geometry (zip (zone_numbers m.geometry) m.zones) ≡ None
no_fault_of_zones m has = no_fault_of_right m (λ z low. (runs_of m z, Zone-zone_of (shape m.geometry z) (sector_of m z) (runs_of m z) (has z low)))
