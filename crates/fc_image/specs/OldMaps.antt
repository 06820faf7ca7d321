-- What an opened image with an old map says of its holes and objects.
use Rattle.std.specs.Prelude.{◌≡◌, ◌⊎◌, ℕ, ◌/◌, ◌%◌, true, false, List, length, Contains}
use Rattle.std.specs.List.{range_with_len}
use Rattle.fc_record.specs.declared.Kind.{Kind}
use Rattle.fc_oldmap.specs.Holes.{AreHoles}
use Rattle.fc_oldmap.specs.OldMap.{OldMapContent, map_units}
use Rattle.fc_image.specs.Layout.{Layout, hole_sectors, is_among}
use Rattle.fc_image.specs.Walk.{Object}
use Rattle.fc_image.specs.Objects.{has_sectors, objects_of}
use Rattle.fc_image.specs.Opening.{Opened}
use Rattle.fc_image.specs.Stays.{OpensAs}

-- An object takes whole sectors from its address on, of which none lies in a hole. The root begins where the map ends.
pub record LiesOnOldMap (space : OldMapContent) (o : Object) : Type 0 where
  pub begins : o.entry.address % space.sector_units ≡ 0
  pub row : o.sectors ≡ range_with_len (o.entry.address / space.sector_units) (length o.sectors)
  pub apart : (s : ℕ) → is_among o.sectors s ≡ true → is_among (hole_sectors (Layout.Old space)) s ≡ false
  pub root : length o.path ≡ 0 → o.entry.address ≡ map_units space.sector_units

-- Sectors have 256 or 1024 bytes. The holes are whole sectors, rise, and lie after the map.
pub record IsOldDisc (space : OldMapContent) (objects : List Object) : Type 0 where
  pub units : (space.sector_units ≡ 1) ⊎ (space.sector_units ≡ 4)
  pub holes : AreHoles space.disc_units space.sector_units (map_units space.sector_units) space.holes
  pub objects_lie : (o : Object) → Contains objects o → has_sectors o ≡ true → LiesOnOldMap space o

-- So it is of every image that opens with an old map.
abbrev pub OldMapLaw : Type 0
OldMapLaw =
    (image : List ℕ) (kind : Kind) (v : Opened) (space : OldMapContent) → OpensAs image kind v → v.layout ≡ Layout.Old space → IsOldDisc space (objects_of v.listings)
