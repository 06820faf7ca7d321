-- What the calls of a command leave on a disc with an old map. Its directories are small and are written to their old places. Beside each
-- fact stands the call that has it as a clause.
use Rattle.std.specs.Prelude.{◌≡◌, ◌≤◌, ℕ, ◌-◌, false, List, length}
use Rattle.fc_bytes.specs.Words.{bytes_at}
use Rattle.fc_device.specs.Sectors.{sector_at}
use Rattle.fc_record.specs.declared.Kind.{Kind}
use Rattle.fc_oldmap.specs.declared.Hole.{Hole}
use Rattle.fc_oldmap.specs.Holes.{hole_limit}
use Rattle.fc_oldmap.specs.OldMap.{OldMapContent, IsOldMap}
use Rattle.fc_image.specs.Layout.{Layout, is_among, map_place, sector_bytes}
use Rattle.fc_image.specs.Opening.{Opened}
use Rattle.fc_image.specs.Stays.{HasSectorsOf, OpensAs}
use Rattle.fc_image.specs.effects.Steady.{OldMapOutside}

-- ---- the disc before

-- the map of the same disc with other holes
abbrev pub holding : OldMapContent → List Hole → OldMapContent
holding space holes = record space { holes = holes }

-- The image opens with the old map `space`, which the volume has in memory.
pub record IsBefore (kind : Kind) (image : List ℕ) (v : Opened) (space : OldMapContent) : Type 0 where
  -- `Volume::mount`
  pub opens : OpensAs image kind v
  pub layout : v.layout ≡ Layout.Old space
  -- `OldMap::read`, `OldMap::holes`
  pub is_map : IsOldMap space

-- ---- what is written

-- The image keeps its length, and no sectors but these and those of the map are written (`Disk::write` of each sector).
pub record IsWritten (space : OldMapContent) (sectors image image' : List ℕ) : Type 0 where
  pub length_stays : length image' ≡ length image
  pub writes : (s : ℕ) → is_among sectors s ≡ false → is_among (map_place (Layout.Old space)) s ≡ false
      → sector_at (sector_bytes (Layout.Old space)) image' s ≡ sector_at (sector_bytes (Layout.Old space)) image s

-- ---- the map afterwards

-- no sector of the map is written
abbrev pub MapStays : OldMapContent → List ℕ → List ℕ → Type 0
MapStays space image image' = HasSectorsOf (sector_bytes (Layout.Old space)) (map_place (Layout.Old space)) image image'

-- The map has these holes, and says so in its 512 bytes; what else is in its sectors stays.
pub record IsMapAfter (space : OldMapContent) (holes : List Hole) (image image' : List ℕ) : Type 0 where
  -- `OldMap::give` would answer MapFull
  pub few : length holes ≤ hole_limit
  -- `OldMap::write`, or no write at all if the holes are as before
  pub bytes : OldMapOutside image image' space (holding space holes)
  pub rest : bytes_at image' 512 (sector_bytes (Layout.Old space) - 512) ≡ bytes_at image 512 (sector_bytes (Layout.Old space) - 512)
