-- A new map: its zones, one sector each, the runs in them (the PRM's fragments and free spaces), and which sectors of the
-- disc these stand for.
use Rattle.std.specs.Prelude.{◌≡◌, ℕ, ◌+◌, ◌-◌, ◌*◌, ◌/◌, ◌%◌, max, Bool, true, false, ◌==◌, ◌&&◌, nat_le, nat_lt, find, List, [], ◌∷◌, ◌++◌, length, map, filter, sum_by, slice_index_or, slice_set, if◌then◌else◌, Option, Some, None, Result, Ok, Err, take, drop}
use Rattle.std.specs.List.{range_with_len, flat_map, fold, list_any, EachIndex}
use Rattle.byteorder.specs.Endian.{little_bytes}
use Rattle.fc_device.specs.declared.disk.Extent.{Extent}
use Rattle.fc_device.specs.Sectors.{sector_at}
use Rattle.fc_record.specs.declared.Geometry.{Geometry}
use Rattle.fc_record.specs.Record.{base, first_bit, end_bit}
use Rattle.fc_zone.specs.declared.ZoneShape.{ZoneShape}
use Rattle.fc_zone.specs.declared.ZoneFault.{ZoneFault}
use Rattle.fc_zone.specs.declared.Run.{Run}
use Rattle.fc_zone.specs.declared.RunKind.{RunKind}
use Rattle.fc_zone.specs.declared.RunKind.TheVariants.{Hole, Id}
use Rattle.fc_zone.specs.Reading.{zone_of, runs_of as runs_in_sector}

-- a geometry, and the sectors of one copy of its map
pub record Map : Type 0 where
  pub geometry : Geometry
  pub zones : List (List ℕ)

-- where zone z's bits lie, and which lengths its runs may have
abbrev pub shape : Geometry → ℕ → ZoneShape
shape g z = record { zone = z; first = first_bit z; end = end_bit g z; base = base g z; idlen = g.idlen; q = g.q; min = g.min }

-- the numbers of the zones
abbrev pub zone_numbers : Geometry → List ℕ
zone_numbers g = range_with_len 0 g.zones

-- the sector of zone z
abbrev pub sector_of : Map → ℕ → List ℕ
sector_of m z = slice_index_or m.zones z []

-- the fault of a zone, if it has one, else that of a later one
abbrev pub fault_or : Result (List Run) ZoneFault → Option ZoneFault → Option ZoneFault
fault_or (Ok runs) later = later
fault_or (Err fault) later = Some fault

-- the fault of the first zone that has one, where each zone stands with its number
abbrev pub first_fault : Geometry → List (ℕ × List ℕ) → Option ZoneFault
first_fault g [] = None
first_fault g (zone ∷ zones) = fault_or (zone_of (shape g zone.0) zone.1) (first_fault g zones)

-- The map has all its zones, each of them is a whole sector, and has runs.
pub record IsMap (m : Map) : Type 0 where
  pub all : length m.zones ≡ m.geometry.zones
  pub whole : EachIndex m.zones (λ z. length (sector_of m z) ≡ m.geometry.sector)
  pub right : EachIndex m.zones (λ z. (runs : List Run) × (zone_of (shape m.geometry z) (sector_of m z) ≡ Ok runs))

-- ---- runs

-- a run, and the zone in which it stands
abbrev pub ZoneRun : Type 0
ZoneRun = ℕ × Run

-- the runs of a zone
abbrev pub runs_of : Map → ℕ → List Run
runs_of m z = runs_in_sector (shape m.geometry z) (sector_of m z)

-- the runs of some zones
abbrev pub runs_in : Map → List ℕ → List ZoneRun
runs_in m zones = flat_map (λ z. map (λ run. (z, run)) (runs_of m z)) zones

-- all runs, in the order of zones and places
abbrev pub all_runs : Map → List ZoneRun
all_runs m = runs_in m (zone_numbers m.geometry)

-- The run is a hole.
abbrev pub is_hole : RunKind → Bool
is_hole Hole = true
is_hole (Id id) = false

-- The run is one of this identifier.
abbrev pub has_id : ℕ → RunKind → Bool
has_id id Hole = false
has_id id (Id other) = other == id

-- all holes, rising
abbrev pub hole_runs : Map → List ZoneRun
hole_runs m = filter (λ p. is_hole p.1.kind) (all_runs m)

-- the zone at which the search for an identifier begins
abbrev pub home_zone : Geometry → ℕ → ℕ
home_zone g id = if id == 2 then g.zones / 2 else id / g.ids_per_zone % g.zones

-- the zones from there upwards, and round to the one before it
abbrev pub search_order : Geometry → ℕ → List ℕ
search_order g id =
    let home = home_zone g id in range_with_len home (g.zones - home) ++ range_with_len 0 home

-- the runs of an identifier, in the order of the search
abbrev pub id_runs : Map → ℕ → List ZoneRun
id_runs m id = filter (λ p. has_id id p.1.kind) (runs_in m (search_order m.geometry id))

-- The identifier has a run.
abbrev pub is_used : Map → ℕ → Bool
is_used m id = list_any (λ p. has_id id p.1.kind) (all_runs m)

-- the bits of some runs together, and those of the longest
abbrev pub bits_in : List ZoneRun → ℕ
bits_in runs = sum_by (λ p. p.1.len) runs

-- the bits of the longest run
abbrev pub longest : List ZoneRun → ℕ
longest runs = fold (λ n p. max n p.1.len) 0 runs

-- ---- where they lie on the disc

-- the disc map bit at which a run begins, and the sector
abbrev pub disc_bit : Geometry → ZoneRun → ℕ
disc_bit g p = base g p.0 + (p.1.start - first_bit p.0)

-- the sector at which a run begins
abbrev pub first_sector : Geometry → ZoneRun → ℕ
first_sector g p = disc_bit g p * g.bit_bytes / g.sector

-- how many sectors it takes
abbrev pub sector_count : Geometry → ZoneRun → ℕ
sector_count g p = p.1.len * g.bit_bytes / g.sector

-- a run's sectors
abbrev pub run_sectors : Geometry → ZoneRun → List ℕ
run_sectors g p = range_with_len (first_sector g p) (sector_count g p)

-- the sectors of some runs, one run after another
abbrev pub sectors_of : Geometry → List ZoneRun → List ℕ
sectors_of g runs = flat_map (run_sectors g) runs

-- a run as a row of sectors
abbrev pub extent_of : Geometry → ZoneRun → Extent
extent_of g p = record { first = first_sector g p; sectors = sector_count g p }

-- the first disc map bit and the bits of each run
abbrev pub bit_extents : Map → ℕ → List (ℕ × ℕ)
bit_extents m id = map (λ p. (disc_bit m.geometry p, p.1.len)) (id_runs m id)

-- A disc map bit lies in the run.
abbrev pub holds_bit : Geometry → ℕ → ZoneRun → Bool
holds_bit g bit p = nat_le (disc_bit g p) bit && nat_lt bit (disc_bit g p + p.1.len)

-- the run in which a disc map bit lies
abbrev pub run_at : Map → ℕ → Option ZoneRun
run_at m bit = find (holds_bit m.geometry bit) (all_runs m)

-- the sectors of both copies of the map
abbrev pub map_sectors : Geometry → List ℕ
map_sectors g = range_with_len g.map_sector (2 * g.zones)

-- the zones of one copy, which stand one after another
abbrev pub zones_in : Geometry → List ℕ → List (List ℕ)
zones_in g bytes = map (sector_at g.sector bytes) (zone_numbers g)

-- ---- edits

-- the map with another sector as zone z
abbrev pub with_zone : Map → ℕ → List ℕ → Map
with_zone m z sector = record m { zones = slice_set m.zones z sector }

-- the map with another CrossCheck in zone z
abbrev pub with_cross : Map → ℕ → ℕ → Map
with_cross m z cross = with_zone m z (slice_set (sector_of m z) 3 cross)

-- the sector of zone 0 with this root and root size in its record
abbrev pub with_root : List ℕ → ℕ → ℕ → List ℕ
with_root sector root size = take 16 sector ++ little_bytes 4 root ++ bytes_between ++ little_bytes 4 size ++ drop 56 sector
  where
    bytes_between : List ℕ
    bytes_between = take 32 (drop 20 sector)
