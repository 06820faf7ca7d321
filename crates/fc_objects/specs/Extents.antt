-- The sectors of an object, by its extents.
use Rattle.std.specs.Prelude.{ℕ, List, get_or}
use Rattle.std.specs.List.{flat_map, range_with_len}
use Rattle.fc_device.specs.declared.disk.Extent.{Extent}

-- the sectors of an extent
abbrev pub extent_sectors : Extent → List ℕ
extent_sectors e = range_with_len e.first e.sectors

-- the sectors of some extents, one after another
abbrev pub sectors_in : List Extent → List ℕ
sectors_in extents = flat_map extent_sectors extents

-- the sector of this number among those of some extents
abbrev pub object_sector : List Extent → ℕ → ℕ
object_sector extents n = get_or (sectors_in extents) n 0
