-- The sectors of an identifier are as many as its bits make.
use Rattle.std.proofs.Common.{◌≡◌, ◌<◌, ◌≤◌, ℕ, ◌+◌, ◌-◌, ◌*◌, ◌/◌, ◌^◌, Bool, true, false, cond, List, [], ◌∷◌, length, length-append, get_or, All, refl, sym, ap, ap₂, subst, ◌∙◌, arith, eq-eqb}
use Rattle.std.specs.Prelude.{◌||◌, filter}
use Rattle.std.specs.List.{range_with_len}
use Rattle.std.proofs.lemmas.List.FromFn.{length-range_with_len}
use Rattle.std.proofs.lemmas.List.Elements.{All-head, All-tail, Contains-get_or}
use Rattle.std.proofs.lemmas.List.Sums.{sum_by-append, sum_by-cons}
use Rattle.std.proofs.lemmas.Nat.{div-mul-add}
use Rattle.fc_record.specs.declared.Geometry.{Geometry}
use Rattle.fc_record.specs.Record.{end_bit, first_bit}
use Rattle.fc_zone.specs.declared.Run.{Run}
use Rattle.fc_zone.specs.Zone.{Spells}
use Rattle.fc_newmap.specs.Map.{Map, ZoneRun, bits_in, has_id, home_zone, id_runs, run_sectors, runs_in, runs_of, search_order, sector_count, sectors_of, shape}
use Rattle.fc_newmap.specs.NewMap.{IsNewMap}
use Rattle.fc_newmap.specs.RunsLaw.{IsGeometry, placed}
use Rattle.fc_newmap.proofs.GeometryLemmas.{geometry_of_valid}
use Rattle.fc_newmap.proofs.HeldLemmas.{end_within, geometry_facts, sector_high}
use Rattle.fc_newmap.proofs.PlaceLemmas.{home_low, id_run_in, in_back, order_in}
use Rattle.fc_newmap.proofs.RunsLemmas.{sectors_add}
use Rattle.fc_image.specs.Layout.{id_sectors}
use Rattle.fc_plan.proofs.MapLemmas.{IsPlaced, all_placed}
use Rattle.fc_space.proofs.SumLemmas.{bytes_fit}
use Rattle.fc_device.specs.Numbers.{is_listed as is_in}

-- ---- whole sectors

length_bits : (g : Geometry) → IsGeometry g → (runs : List ZoneRun) → All (IsPlaced g) runs → length (sectors_of g runs) ≡ bits_in runs * g.bit_bytes / g.sector
length_bits g good [] all = sym (ap (λ (n : ℕ). n / g.sector) (let e : 0 * g.bit_bytes ≡ 0 * g.sector + 0 = omega arith in e) ∙ div-mul-add 0 g.sector 0 good.some)
length_bits g good (p ∷ runs) all =
    length-append (run_sectors g p) (sectors_of g runs)
    ∙ ap₂ (λ (a b : ℕ). a + b) (length-range_with_len _ (sector_count g p)) (length_bits g good runs (All-tail (IsPlaced g) p runs all))
    ∙ sym (sectors_add g.q g.bit_bytes g.sector p.1.len (bits_in runs) good.some good.whole (All-head (IsPlaced g) p runs all).long.1)
    ∙ ap (λ (n : ℕ). n * g.bit_bytes / g.sector) (sym (sum_by-cons (λ (q : ZoneRun). q.1.len) p runs))

id_placed : (m : Map) (id : ℕ) → IsNewMap m → All (IsPlaced m.geometry) (id_runs m id)
id_placed m id is k d in' =
    let facts = geometry_facts m.geometry is.of_record in
    let p = get_or (id_runs m id) k d in
    all_placed m is p (id_run_in m id p facts.zones (Contains-get_or (id_runs m id) k d in')).0

pub sectors_are : (m : Map) (id : ℕ) → IsNewMap m → length (id_sectors m id) ≡ bits_in (id_runs m id) * m.geometry.bit_bytes / m.geometry.sector
sectors_are m id is =
    let r = is.of_record in
    let good : IsGeometry m.geometry = subst IsGeometry r.1.1 (geometry_of_valid r.0 r.1.0) in
    length_bits m.geometry good (id_runs m id) (id_placed m id is)

-- ---- how many bits there may be

spelled_bits : (g : Geometry) (z : ℕ) (bs : List ℕ) (runs : List Run) (at end : ℕ) → Spells (shape g z) bs at runs end → at + bits_in (placed z runs) ≡ end
spelled_bits g z bs [] at end h = (let e : at ≡ end = h in let n : at + 0 ≡ at = omega arith in n ∙ e)
spelled_bits g z bs (run ∷ runs) at end h =
    let rest = spelled_bits g z bs runs (at + run.len) end h.3 in
    let cut : bits_in (placed z (run ∷ runs)) ≡ run.len + bits_in (placed z runs) = sum_by-cons (λ (q : ZoneRun). q.1.len) (z, run) (placed z runs) in
    omega (arith, rest, cut)

fewer : (t : ZoneRun → Bool) (runs : List ZoneRun) → bits_in (filter t runs) ≤ bits_in runs
fewer t [] = omega arith
fewer t (p ∷ runs) = by (t p) (fewer t runs)
  where
    by : (b : Bool) → bits_in (filter t runs) ≤ bits_in runs → bits_in (cond b (p ∷ filter t runs) (filter t runs)) ≤ bits_in (p ∷ runs)
    by true less = omega (arith, sum_by-cons (λ (q : ZoneRun). q.1.len) p (filter t runs), sum_by-cons (λ (q : ZoneRun). q.1.len) p runs)
    by false less = omega (arith, sum_by-cons (λ (q : ZoneRun). q.1.len) p runs)

zone_few : (m : Map) (z : ℕ) → IsNewMap m → z < m.geometry.zones → bits_in (placed z (runs_of m z)) ≤ 8192
zone_few m z is low =
    let g = m.geometry in
    let all = spelled_bits g z _ (runs_of m z) (first_bit z) (end_bit g z) (is.right z low).spelled in
    let end = end_within g z is.of_record low in
    let high = sector_high g (geometry_facts g is.of_record) in
    omega arith

zones_few : (m : Map) (zones : List ℕ) → IsNewMap m → ((z : ℕ) → is_in zones z ≡ true → z < m.geometry.zones) → bits_in (runs_in m zones) ≤ 8192 * length zones
zones_few m [] is low = omega arith
zones_few m (z ∷ zones) is low =
    let here = zone_few m z is (low z (ap (λ (b : Bool). b || is_in zones z) (eq-eqb z z refl))) in
    let rest = zones_few m zones is (λ y there. low y (in_back (z ∷ []) zones y there)) in
    let cut : bits_in (runs_in m (z ∷ zones)) ≡ bits_in (placed z (runs_of m z)) + bits_in (runs_in m zones) = sum_by-append (λ (q : ZoneRun). q.1.len) (placed z (runs_of m z)) (runs_in m zones) in
    omega (arith, here, rest, cut)

pub bits_few : (m : Map) (id : ℕ) → IsNewMap m → bits_in (id_runs m id) * m.geometry.bit_bytes < 2 ^ 64
bits_few m id is =
    let g = m.geometry in
    let facts = geometry_facts g is.of_record in
    let home = home_zone g id in
    let low = home_low g id facts.zones in
    let long : length (search_order g id) ≡ g.zones =
    length-append (range_with_len home (g.zones - home)) (range_with_len 0 home)
    ∙ ap₂ (λ (a b : ℕ). a + b) (length-range_with_len home (g.zones - home)) (length-range_with_len 0 home)
    ∙ (let e : g.zones - home + home ≡ g.zones = omega arith in e) in
    let all = zones_few m (search_order g id) is (λ z there. order_in g id z facts.zones there) in
    let some = fewer (λ p. has_id id p.1.kind) (runs_in m (search_order g id)) in
    bytes_fit g (bits_in (id_runs m id)) is.of_record (omega (arith, long, all, some))
