-- The zones of a map in one buffer, and what an edit of one of them leaves.
use Rattle.std.proofs.Common.{◌≡◌, ◌≢◌, ◌<◌, ◌≤◌, ℕ, suc, ◌+◌, ◌-◌, ◌*◌, ◌/◌, ◌^◌, List, [], length, take, drop, true, refl, sym, ap, subst, ◌∙◌, inl, inr, arith, ◌⊎◌}
use Rattle.std.specs.Prelude.{slice_index_or, slice_set}
use Rattle.std.proofs.Math.Nat.{div-le_self}
use Rattle.std.proofs.Math.Nat.{mod-lt}
use Rattle.std.proofs.lemmas.Bool.{cases_eq, cases_lt}
use Rattle.std.proofs.lemmas.Nat.{div-add-mod', mul-le}
use Rattle.std.proofs.lemmas.List.{get_or-set_same, get_or-set_other, length-set}
use Rattle.std.proofs.lemmas.List.FromFn.{length-map-range_with_len, get_or-map-range_with_len, fill_by_all}
use borrow.Rule.Slice.PartMut.{put_mid}
use Rattle.fc_device.specs.Sectors.{sector_at, with_sector}
use Rattle.fc_device.proofs.SectorLemmas.{put_mid-with_sector, slice-sector_at, length-sector_at, length-with_sector, sector_at-with_sector_same, sector_at-with_sector_other}
use Rattle.fc_record.specs.declared.DiscRecord.{DiscRecord}
use Rattle.fc_record.specs.declared.Geometry.{Geometry}
use Rattle.fc_record.specs.Record.{geometry, is_valid, base, first_bit, end_bit}
use Rattle.fc_zone.specs.declared.Run.{Run}
use Rattle.fc_zone.specs.Zone.{IsShapeOf, IsZone, Zone}
use Rattle.fc_zone.specs.Reading.{runs_of as runs_read}
use Rattle.fc_zone.proofs.ReadingLemmas.{runs_of_zone}
use Rattle.fc_newmap.specs.Map.{Map, shape, sector_of, runs_of, zones_in, with_zone}
use Rattle.fc_newmap.specs.RunsLaw.{HasZones}
use Rattle.fc_newmap.specs.NewMap.{IsOfRecord, IsNewMap, IsHeld, map_in}
use Rattle.fc_newmap.proofs.GeometryLemmas.{facts_of_valid, shape_of_valid, zone_within, zone_on_disc, three_sizes, ends_last, first_low}

-- what the calls need of a geometry
pub record GeometryFacts (g : Geometry) : Type 0 where
  pub zones : 1 ≤ g.zones
  pub size : (g.sector ≡ 256) ⊎ ((g.sector ≡ 512) ⊎ (g.sector ≡ 1024))
  pub room : 480 ≤ g.zone_size
  pub header : g.zone_size + 32 ≤ 8 * g.sector
  pub begun : base g (g.zones - 1) < g.disc_bits
  pub covered : g.disc_bits ≤ g.zones * g.zone_size - 480
  pub bytes : g.disc_bits * g.bit_bytes ≤ 2 ^ 40
  pub bits : g.disc_bits ≤ 2 ^ 40
  pub ids : 0 < g.ids_per_zone

some_ids : (idlen size : ℕ) → 480 ≤ size → idlen ≤ 19 → 0 < size / (idlen + 1)
some_ids idlen size high low =
    let parts = div-add-mod' size (idlen + 1) in
    let rest = mod-lt size {m = idlen + 1} (omega arith) in
    elim (cases_lt 0 (size / (idlen + 1))) [
      | inl some ↦ some
      | inr none ↦ absurd (let zero_ids : size / (idlen + 1) ≡ 0 = omega arith in let gone : size / (idlen + 1) * (idlen + 1) ≡ 0 = ap (λ (n : ℕ). n * (idlen + 1)) zero_ids ∙ (let z : 0 * (idlen + 1) ≡ 0 = omega arith in z) in omega arith)
    ]

facts_of : (r : DiscRecord) → is_valid r ≡ true → GeometryFacts (geometry r)
facts_of r valid =
    let is = facts_of_valid r valid in
    let room = is.room in
    let spare = is.spare in
    let size : (geometry r).zone_size ≡ 8 * 2 ^ r.log2_sector - r.spare = refl in
    let parts = div-add-mod' r.size ((geometry r).bit_bytes) in
    let high = is.size in
    record {
      zones = is.zones;
      size = three_sizes r.log2_sector ((geometry r).sector) is.sector_low is.sector_high refl;
      room = omega arith;
      header = omega arith;
      begun = is.begun;
      covered = is.covered;
      bytes = omega arith;
      ids = (let i = is.idlen_high in some_ids r.idlen ((geometry r).zone_size) (omega arith) i);
      bits = (let low = div-le_self r.size ((geometry r).bit_bytes) in omega arith);
    }

pub geometry_facts : (g : Geometry) → IsOfRecord g → GeometryFacts g
geometry_facts g is = subst GeometryFacts is.1.1 (facts_of is.0 is.1.0)

pub sector_high : (g : Geometry) → GeometryFacts g → g.sector ≤ 1024
sector_high g f = elim f.size [
  | inl one ↦ omega arith
  | inr rest ↦ elim rest [ inl two ↦ omega arith | inr three ↦ omega arith ]
]

pub shape_fits : (g : Geometry) (z : ℕ) (sector : List ℕ) → IsOfRecord g → z < g.zones → length sector ≡ g.sector → IsShapeOf sector (shape g z)
shape_fits g z sector is =
    subst (λ (h : Geometry). z < h.zones → length sector ≡ h.sector → IsShapeOf sector (shape h z)) is.1.1 (shape_of_valid is.0 z sector is.1.0)

-- a zone's bits lie in its sector
pub end_within : (g : Geometry) (z : ℕ) → IsOfRecord g → z < g.zones → end_bit g z ≤ 8 * g.sector
end_within g z is =
    subst (λ (h : Geometry). z < h.zones → end_bit h z ≤ 8 * h.sector) is.1.1 (zone_within is.0 (facts_of_valid is.0 is.1.0) z)

pub on_disc : (g : Geometry) (z : ℕ) → IsOfRecord g → z < g.zones → base g z + (end_bit g z - first_bit z) ≤ g.disc_bits
on_disc g z is low = let f = geometry_facts g is in zone_on_disc g z low f.room f.begun

-- the last zone ends where the disc does
pub end_last : (g : Geometry) (z : ℕ) → IsOfRecord g → z < g.zones → z + 1 ≡ g.zones
    → (end_bit g z ≡ first_bit z + g.disc_bits - base g z) × (end_bit g z ≤ 8192) × (base g z < g.disc_bits) × (first_bit z + g.disc_bits < 2 ^ 41)
end_last g z is low last =
    let f = geometry_facts g is in
    let within = end_within g z is low in
    let here : g.zones - 1 ≡ z = omega arith in
    let begun : base g z < g.disc_bits = subst (λ (n : ℕ). base g n < g.disc_bits) here f.begun in
    (ends_last g z last, (let s = sector_high g f in omega arith), begun, (let l = first_low z in let b = f.bits in omega arith))

pub end_earlier : (g : Geometry) → IsOfRecord g → 32 + g.zone_size ≤ 8192
end_earlier g is = let f = geometry_facts g is in let s = sector_high g f in let h = f.header in omega arith

-- ---- sectors of the buffer

pub place_fits : (z zones size : ℕ) → z < zones → z * size + size ≤ zones * size
place_fits z zones size low = grind (arith, mul-le (suc z) size zones size low (omega arith))

module _ (g : Geometry) (bytes : List ℕ) (z : ℕ) (whole : length bytes ≡ g.zones * g.sector) (low : z < g.zones) where
  fits : z * g.sector + g.sector ≤ length bytes
  fits = let p = place_fits z g.zones g.sector low in omega arith

  -- the sector of a zone
  pub sector_is : sector_of (map_in g bytes) z ≡ sector_at g.sector bytes z
  sector_is = get_or-map-range_with_len (sector_at g.sector bytes) 0 g.zones z z [] low (omega arith)

  pub length-sector : length (sector_of (map_in g bytes) z) ≡ g.sector
  length-sector = ap length sector_is ∙ length-sector_at g.sector bytes z fits

  -- the slice that holds it
  pub slice_is : take (z * g.sector + g.sector - z * g.sector) (drop (z * g.sector) bytes) ≡ sector_of (map_in g bytes) z
  slice_is = slice-sector_at g.sector bytes z ∙ sym sector_is

-- ---- an edit of one zone

-- a map with a sector that is a zone in place of another
pub new_map_with : (m : Map) (z : ℕ) (part : List ℕ) → IsNewMap m → z < m.geometry.zones → length part ≡ m.geometry.sector → IsZone (shape m.geometry z) part → IsNewMap (with_zone m z part)
new_map_with m z part is low long zone =
    let all = is.all in
    let there : sector_of (with_zone m z part) z ≡ part = get_or-set_same m.zones z part [] (omega arith) in
    let other : (y : ℕ) → y ≢ z → sector_of (with_zone m z part) y ≡ sector_of m y = λ y apart. get_or-set_other m.zones z y part [] apart in
    record {
      of_record = is.of_record;
      all = length-set m.zones z part ∙ all;
      whole = λ y below. elim (cases_eq y z) [
        | inl same ↦ ap (λ (k : ℕ). length (sector_of (with_zone m z part) k)) same ∙ ap length there ∙ long
        | inr apart ↦ ap length (other y apart) ∙ is.whole y below
      ];
      right = λ y below. elim (cases_eq y z) [
        | inl same ↦ subst (λ (k : ℕ). Zone (shape m.geometry k) (sector_of (with_zone m z part) k) (runs_of (with_zone m z part) k)) (sym same)
            (subst (λ (s : List ℕ). Zone (shape m.geometry z) s (runs_read (shape m.geometry z) s)) (sym there)
            (subst (λ (rs : List Run). Zone (shape m.geometry z) part rs) (sym (runs_of_zone (shape m.geometry z) part zone.0 zone.1)) zone.1))
        | inr apart ↦ subst (λ (s : List ℕ). Zone (shape m.geometry y) s (runs_read (shape m.geometry y) s)) (sym (other y apart)) (is.right y below)
      ];
    }

module _ (g : Geometry) (bytes : List ℕ) (z : ℕ) (part : List ℕ) (held : IsHeld g bytes) (low : z < g.zones) (long : length part ≡ g.sector) where
  -- the bytes with another sector
  abbrev pub after : List ℕ
  after = put_mid (z * g.sector) (z * g.sector + g.sector - z * g.sector) bytes part

  after_is : after ≡ with_sector g.sector bytes z part
  after_is = put_mid-with_sector g.sector bytes z part bytes part refl refl

  inside : z * g.sector + g.sector ≤ length bytes
  inside = let p = place_fits z g.zones g.sector low in let w = held.whole in omega arith

  each : (y : ℕ) → y < g.zones → slice_index_or (slice_set (zones_in g bytes) z part) y [] ≡ sector_at g.sector (with_sector g.sector bytes z part) y
  each y below =
      let size = length-map-range_with_len (sector_at g.sector bytes) 0 g.zones in
      elim (cases_eq y z) [
        | inl same ↦ ap (λ (k : ℕ). slice_index_or (slice_set (zones_in g bytes) z part) k []) same ∙ get_or-set_same (zones_in g bytes) z part [] (omega arith)
            ∙ sym (ap (sector_at g.sector (with_sector g.sector bytes z part)) same ∙ sector_at-with_sector_same g.sector bytes z part long inside)
        | inr apart ↦ get_or-set_other (zones_in g bytes) z y part [] apart
            ∙ get_or-map-range_with_len (sector_at g.sector bytes) 0 g.zones y y [] below (omega arith)
            ∙ sym (sector_at-with_sector_other g.sector bytes z y part long inside apart)
      ]

  pub zones_after : zones_in g after ≡ slice_set (zones_in g bytes) z part
  zones_after =
      let size = length-map-range_with_len (sector_at g.sector bytes) 0 g.zones in
      ap (zones_in g) after_is
      ∙ sym (fill_by_all (sector_at g.sector (with_sector g.sector bytes z part)) (slice_set (zones_in g bytes) z part) g.zones [] (length-set (zones_in g bytes) z part ∙ size) each)

  -- the map is the one with that zone
  pub map_after : map_in g after ≡ with_zone (map_in g bytes) z part
  map_after = ap (λ (zs : List (List ℕ)). let m : Map = record { geometry = g; zones = zs } in m) zones_after

  pub sector_after : sector_of (map_in g after) z ≡ part
  sector_after =
      let size = length-map-range_with_len (sector_at g.sector bytes) 0 g.zones in
      ap (λ (m : Map). sector_of m z) map_after ∙ get_or-set_same (zones_in g bytes) z part [] (omega arith)

  pub held_after : IsZone (shape g z) part → IsHeld g after
  held_after zone = record {
    whole = ap length after_is ∙ length-with_sector g.sector bytes z part long inside ∙ held.whole;
    map = subst IsNewMap (sym map_after) (new_map_with (map_in g bytes) z part held.map low long zone);
  }

  pub length-after : length after ≡ length bytes
  length-after = ap length after_is ∙ length-with_sector g.sector bytes z part long inside

pub length-zones : (g : Geometry) (bytes : List ℕ) → length (zones_in g bytes) ≡ g.zones
length-zones g bytes = length-map-range_with_len (sector_at g.sector bytes) 0 g.zones

-- the bytes of one copy whose zones have runs
pub held_of : (g : Geometry) (bytes : List ℕ) → IsOfRecord g → length bytes ≡ g.zones * g.sector → HasZones (map_in g bytes) → IsHeld g bytes
held_of g bytes of_record whole has = record {
  whole = whole;
  map = record { of_record = of_record; all = length-zones g bytes; whole = λ z low. length-sector g bytes z whole low; right = has };
}

-- there is a zone
pub some_zone : (g : Geometry) (bytes : List ℕ) (m : Map) → IsHeld g bytes → map_in g bytes ≡ m → 0 < m.geometry.zones
some_zone g bytes m held e = subst (λ (n : Map). 0 < n.geometry.zones) e (let f = geometry_facts g held.map.of_record in f.zones)

-- zone 0 lies in the buffer
pub first_fits : (g : Geometry) (bytes : List ℕ) (from : ℕ) → IsHeld g bytes → from ≡ 0 * g.sector → from + g.sector ≤ length bytes
first_fits g bytes from held at =
    let f = geometry_facts g held.map.of_record in
    let fits = place_fits 0 g.zones g.sector f.zones in
    omega (arith, held.whole)
