-- Free space: sums over the holes of a map, which numbers of 64 bits hold.
use Rattle.std.proofs.Common.{◌≡◌, ◌<◌, ◌≤◌, ℕ, zero, suc, ◌+◌, ◌*◌, ◌^◌, max, Bool, true, false, cond, List, [], ◌∷◌, sym, subst, arith}
use Rattle.std.specs.Prelude.{filter}
use Rattle.std.specs.List.{fold, range_with_len}
use Rattle.std.proofs.lemmas.List.Sums.{sum_by-cons, sum_by-append}
use Rattle.fc_bytes.specs.Bits.{bits}
use Rattle.fc_record.specs.declared.Geometry.{Geometry}
use Rattle.fc_record.specs.Record.{end_bit, first_bit}
use Rattle.fc_zone.specs.declared.Run.{Run}
use Rattle.fc_zone.specs.Zone.{Spells}
use Rattle.fc_newmap.specs.Map.{Map, ZoneRun, all_runs, bits_in, hole_runs, is_hole, longest, runs_in, runs_of, sector_of, shape}
use Rattle.fc_newmap.specs.NewMap.{IsNewMap, IsOfRecord}
use Rattle.fc_newmap.specs.RunsLaw.{placed}
use Rattle.fc_newmap.proofs.GeometryLemmas.{facts_of_valid, zone_within}
use Rattle.fc_newmap.proofs.HeldLemmas.{geometry_facts}
use Rattle.fc_space.proofs.SumLemmas.{bytes_fit}

zone_bits : (g : Geometry) (z : ℕ) (bs : List ℕ) (runs : List Run) (at end : ℕ) → Spells (shape g z) bs at runs end → at + bits_in (placed z runs) ≡ end
zone_bits g z bs [] at end s = omega (arith, s)
zone_bits g z bs (run ∷ runs) at end s =
    let rest = zone_bits g z bs runs (at + run.len) end s.3 in
    let all = sum_by-cons (λ (p : ZoneRun). p.1.len) (z, run) (placed z runs) in
    omega (arith, rest, all)

ends_low : (g : Geometry) → IsOfRecord g → (z : ℕ) → z < g.zones → end_bit g z ≤ 8192
ends_low g is z low =
    let within = zone_within is.0 (facts_of_valid is.0 is.1.0) z (subst (λ (h : Geometry). z < h.zones) (sym is.1.1) low) in
    let here : end_bit g z ≤ 8 * g.sector = subst (λ (h : Geometry). end_bit h z ≤ 8 * h.sector) is.1.1 within in
    let size = (geometry_facts g is).size in
    omega (arith, here, size)

zones_bits : (m : Map) → IsNewMap m → (n z : ℕ) → z + n ≤ m.geometry.zones → bits_in (runs_in m (range_with_len z n)) ≤ 8192 * n
zones_bits m is zero z low = omega arith
zones_bits m is (suc n) z low =
    let g = m.geometry in
    let here = zone_bits g z (bits (sector_of m z)) (runs_of m z) (first_bit z) (end_bit g z) (is.right z (omega (arith, low))).spelled in
    let most = ends_low g is.of_record z (omega (arith, low)) in
    let rest = zones_bits m is n (z + 1) (omega (arith, low)) in
    let both = sum_by-append (λ (p : ZoneRun). p.1.len) (placed z (runs_of m z)) (runs_in m (range_with_len (z + 1) n)) in
    omega (arith, here, most, rest, both)

kept_low : (t : ZoneRun → Bool) (runs : List ZoneRun) → bits_in (filter t runs) ≤ bits_in runs
kept_low t [] = omega arith
kept_low t (p ∷ runs) = by (t p) (kept_low t runs)
  where
    by : (b : Bool) → bits_in (filter t runs) ≤ bits_in runs → bits_in (cond b (p ∷ filter t runs) (filter t runs)) ≤ bits_in (p ∷ runs)
    by true low = omega (arith, low, sum_by-cons (λ (q : ZoneRun). q.1.len) p (filter t runs), sum_by-cons (λ (q : ZoneRun). q.1.len) p runs)
    by false low = omega (arith, low, sum_by-cons (λ (q : ZoneRun). q.1.len) p runs)

longest_from : (n most : ℕ) (runs : List ZoneRun) → n + bits_in runs ≤ most → fold (λ (k : ℕ) (p : ZoneRun). max k p.1.len) n runs ≤ most
longest_from n most [] low = omega (arith, low)
longest_from n most (p ∷ runs) low = longest_from (max n p.1.len) most runs (omega (arith, low, sum_by-cons (λ (q : ZoneRun). q.1.len) p runs))

holes_few : (m : Map) → IsNewMap m → bits_in (hole_runs m) ≤ 8192 * m.geometry.zones
holes_few m is =
    let all = zones_bits m is m.geometry.zones 0 (omega arith) in
    let some = kept_low (λ p. is_hole p.1.kind) (all_runs m) in
    omega (arith, all, some)

-- numbers of 64 bits hold the bytes of all holes,
pub free_fits : (m : Map) (bit n : ℕ) → IsNewMap m → bit ≡ m.geometry.bit_bytes → n ≡ bits_in (hole_runs m) → n * bit < 2 ^ 64
free_fits m bit n is b e = rw b (bytes_fit m.geometry n is.of_record (let few = holes_few m is in omega (arith, e, few)))

-- and of the largest
pub largest_fits : (m : Map) (bit n : ℕ) → IsNewMap m → bit ≡ m.geometry.bit_bytes → n ≡ longest (hole_runs m) → n * bit < 2 ^ 64
largest_fits m bit n is b e =
    let low = longest_from 0 (bits_in (hole_runs m)) (hole_runs m) (omega arith) in
    rw b (bytes_fit m.geometry n is.of_record (let few = holes_few m is in omega (arith, e, few, low)))
