-- The layout of a disc, by an old map or a new one, and which sectors the bytes at an address take.
use Rattle.std.specs.Prelude.{ℕ, ◌+◌, ◌-◌, ◌*◌, ◌/◌, ◌%◌, Bool, true, false, ◌&&◌, ◌==◌, nat_le, nat_lt, List, [], length, take, drop, if◌then◌else◌, Option, Some, None}
use Rattle.std.specs.List.{range_with_len, flat_map, list_any}
use Rattle.std.specs.Int.{div_ceil}
use Rattle.fc_device.specs.Sectors.{sector_at}
use Rattle.fc_names.specs.declared.name.NameForm.{NameForm}
use Rattle.fc_names.specs.declared.name.NameForm.TheVariants.{Seven, Ten, Long}
use Rattle.fc_record.specs.Record.{id_limit}
use Rattle.fc_oldmap.specs.declared.Hole.{Hole}
use Rattle.fc_oldmap.specs.OldMap.{OldMapContent, map_units}
use Rattle.fc_newmap.specs.Map.{Map, id_runs, hole_runs, sectors_of, map_sectors}

-- a disc by its map, an old one or a new one
pub data Layout : Type 0 where
  Old : (space : OldMapContent) → Layout
  New : (map : Map) → Layout

-- the bytes of a sector
abbrev pub sector_bytes : Layout → ℕ
sector_bytes (Old space) = 256 * space.sector_units
sector_bytes (New m) = m.geometry.sector

-- the form of the disc's directories
abbrev pub dir_form : Layout → NameForm
dir_form (Old space) = if space.sector_units == 4 then Ten else Seven
dir_form (New m) = if m.geometry.version == 0 then Ten else Long

-- The sectors of the disc. On a new map they are those that map bits stand for, which may be a few less than the disc's,
-- if a map bit stands for several sectors.
abbrev pub disc_sectors : Layout → ℕ
disc_sectors (Old space) = space.disc_units / space.sector_units
disc_sectors (New m) = m.geometry.disc_bits * m.geometry.bit_bytes / m.geometry.sector

-- ---- holes

-- the sectors of a hole of an old map
abbrev pub hole_sectors_in : ℕ → Hole → List ℕ
hole_sectors_in units h = range_with_len (h.start / units) (h.len / units)

-- the sectors that lie in holes
abbrev pub hole_sectors : Layout → List ℕ
hole_sectors (Old space) = flat_map (hole_sectors_in space.sector_units) space.holes
hole_sectors (New m) = sectors_of m.geometry (hole_runs m)

-- the sectors that hold the map
abbrev pub map_place : Layout → List ℕ
map_place (Old space) = range_with_len 0 (map_units space.sector_units / space.sector_units)
map_place (New m) = map_sectors m.geometry

-- ---- addresses

-- An indirect address is an identifier and a low byte.
abbrev pub id_of : ℕ → ℕ
id_of address = address / 256

-- the low byte of an address
abbrev pub low_of : ℕ → ℕ
low_of address = address % 256

-- the first n, if there are so many
abbrev pub first_part : ℕ → List ℕ → Option (List ℕ)
first_part n xs = if nat_le n (length xs) then Some (take n xs) else None

-- an identifier's sectors, one run after another
abbrev pub id_sectors : Map → ℕ → List ℕ
id_sectors m id = sectors_of m.geometry (id_runs m id)

-- how many sectors into its identifier an object with this low byte begins: k share units for k + 1, and none for 0
abbrev pub low_start : Map → ℕ → ℕ
low_start m low = (low - 1) * (m.geometry.share / m.geometry.sector)

-- Objects may have the identifier.
abbrev pub is_object_id : Map → ℕ → Bool
is_object_id m id = nat_le 2 id && nat_lt id (id_limit m.geometry)

-- the sectors of bytes at an address of a new map, if the identifier has so many
abbrev pub new_sectors : Map → ℕ → ℕ → Option (List ℕ)
new_sectors m address bytes =
    if is_object_id m (id_of address)
    then first_part (div_ceil bytes m.geometry.sector) (drop (low_start m (low_of address)) (id_sectors m (id_of address)))
    else None

-- On an old map an address counts units.
abbrev pub old_sectors : OldMapContent → ℕ → ℕ → Option (List ℕ)
old_sectors space address bytes =
    let first = address / space.sector_units in
    let count = div_ceil bytes (256 * space.sector_units) in
    if (address % space.sector_units == 0) && nat_le (first + count) (space.disc_units / space.sector_units)
    then Some (range_with_len first count)
    else None

-- the sectors of one byte or more
abbrev pub some_sectors : Layout → ℕ → ℕ → Option (List ℕ)
some_sectors (Old space) address bytes = old_sectors space address bytes
some_sectors (New m) address bytes = new_sectors m address bytes

-- the whole sectors that so many bytes from the address take; none at all for no bytes, whatever the address
unfoldable pub sectors_at : Layout → ℕ → ℕ → Option (List ℕ)
sectors_at layout address bytes = if bytes == 0 then Some [] else some_sectors layout address bytes

-- the first bytes of some sectors, one sector after another
unfoldable pub bytes_in : ℕ → List ℕ → List ℕ → ℕ → List ℕ
bytes_in size image sectors n = take n (flat_map (sector_at size image) sectors)

-- The sector is one of these.
abbrev pub is_among : List ℕ → ℕ → Bool
is_among sectors s = list_any (λ t. t == s) sectors

-- no sector is in both
abbrev pub is_apart : List ℕ → List ℕ → Bool
is_apart xs ys = if list_any (is_among ys) xs then false else true
