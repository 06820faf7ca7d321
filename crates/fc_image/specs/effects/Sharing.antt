-- Which identifier a new file may share.
use Rattle.std.specs.Prelude.{ℕ, ◌+◌, ◌-◌, ◌*◌, max, Bool, false, not, ◌&&◌, ◌==◌, nat_lt, nat_le, List, length, map, filter, if◌then◌else◌, Option, None}
use Rattle.std.specs.List.{range_with_len, flat_map, find, list_all}
use Rattle.std.specs.Option.{option_map_or}
use Rattle.std.specs.Int.{div_ceil, next_multiple_of}
use Rattle.fc_names.specs.Names.{Path, is_same_path}
use Rattle.fc_record.specs.declared.Geometry.{Geometry}
use Rattle.fc_record.specs.Record.{id_limit}
use Rattle.fc_newmap.specs.Map.{Map, is_used}
use Rattle.fc_model.specs.Tree.{holder}
use Rattle.fc_image.specs.Layout.{new_sectors, low_of, is_apart, id_of}
use Rattle.fc_image.specs.Walk.{Object, is_directory_object}
use Rattle.fc_image.specs.Objects.{has_sectors}

-- the bits that so many bytes take: a multiple of q, at least min, and none for no bytes
abbrev pub units : Geometry → ℕ → ℕ
units g bytes = if bytes == 0 then 0 else max g.min (next_multiple_of (div_ceil bytes g.bit_bytes) g.q)

-- the identifiers that a new object may have
abbrev pub new_ids : Map → List ℕ
new_ids m = filter (λ id. not (is_used m id)) (range_with_len 3 (id_limit m.geometry - 3))

-- what an owner has of its identifier. Directories are known by their paths here, and by their numbers in fc_alloc.
pub record Holding (D : Type 0) : Type 0 where
  pub id : ℕ
  pub dir : D
  pub file : Bool
  pub low : ℕ
  pub sectors : List ℕ

-- what the owners of an identifier have of it
abbrev pub holdings_in : {D : Type 0} → List (Holding D) → ℕ → List (Holding D)
holdings_in holdings id = filter (λ h. h.id == id) holdings

-- a file of the directory, whose low byte can be counted on from
abbrev pub may_share_with : {D : Type 0} → (D → D → Bool) → D → Holding D → Bool
may_share_with same dir h = h.file && same h.dir dir && nat_le 1 h.low

-- some own the identifier, and all of them may be shared with
abbrev pub is_shareable : {D : Type 0} → (D → D → Bool) → D → List (Holding D) → Bool
is_shareable same dir holdings = nat_lt 0 (length holdings) && list_all (may_share_with same dir) holdings

-- the bytes from this low byte lie in the identifier and in none of its owners
abbrev pub is_spare : {D : Type 0} → Map → List (Holding D) → ℕ → ℕ → ℕ → Bool
is_spare m holdings id low bytes =
    option_map_or (λ sectors. is_apart sectors (flat_map (λ h. h.sectors) holdings)) (new_sectors m (256 * id + low) bytes) false

-- identifiers and low bytes, the least identifier first
abbrev pub shares : Map → List (ℕ × ℕ)
shares m = flat_map (λ id. map (λ low. (id, low)) (range_with_len 1 255)) (range_with_len 3 (id_limit m.geometry - 3))

-- the least identifier, and in it the least low byte, at which a file of the directory may be put
unfoldable pub slack_among : {D : Type 0} → (D → D → Bool) → Map → List (Holding D) → D → ℕ → Option (ℕ × ℕ)
slack_among same m holdings dir bytes =
    if bytes == 0 then None
    else find (λ s. is_shareable same dir (holdings_in holdings s.0) && is_spare m (holdings_in holdings s.0) s.0 s.1 bytes) (shares m)

-- what an object has of its identifier
abbrev pub holding_of : Object → Holding Path
holding_of o = record {
  id = id_of o.entry.address;
  dir = holder o.path;
  file = not (is_directory_object o);
  low = low_of o.entry.address;
  sectors = o.sectors;
}

-- the slack for a file of a directory
abbrev pub slack : Map → List Object → Path → ℕ → Option (ℕ × ℕ)
slack m objects dir bytes = slack_among is_same_path m (map holding_of (filter has_sectors objects)) dir bytes
