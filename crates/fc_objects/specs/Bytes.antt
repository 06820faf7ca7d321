-- The bytes of an object.
use Rattle.std.specs.Prelude.{ℕ, ◌*◌, min, List, length, take}
use Rattle.std.specs.List.{flat_map}
use Rattle.fc_device.specs.Sectors.{sector_at}
use Rattle.fc_objects.specs.declared.reader.ObjectReader.{ObjectReader}
use Rattle.fc_objects.specs.Ahead.{ahead}

-- the first bytes of some sectors, one sector after another
unfoldable pub first_bytes : ℕ → List ℕ → List ℕ → ℕ → List ℕ
first_bytes size image sectors n = take n (flat_map (sector_at size image) sectors)

-- the bytes of an object in this image that its reader has yet to give
abbrev pub bytes_ahead : List ℕ → ObjectReader → List ℕ
bytes_ahead image r = first_bytes r.size image (ahead r.sectors) r.len

-- how many these are
abbrev pub length_ahead : ObjectReader → ℕ
length_ahead r = min r.len (length (ahead r.sectors) * r.size)
