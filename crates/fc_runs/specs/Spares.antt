-- What a command that changes the tree leaves as it was, also where a crash or an I/O error breaks it off.
use Rattle.std.specs.Prelude.{◌≡◌, ◌≤◌, ℕ, false, List, length, Contains}
use Rattle.fc_device.specs.Sectors.{sector_at}
use Rattle.fc_record.specs.declared.Kind.{Kind}
use Rattle.fc_model.specs.Command.{Command}
use Rattle.fc_image.specs.Layout.{Layout, disc_sectors, is_among, map_place, sector_bytes}
use Rattle.fc_image.specs.Walk.{is_directory_object}
use Rattle.fc_image.specs.Objects.{objects_of}
use Rattle.fc_image.specs.Opening.{Opened, boot_place}
use Rattle.fc_image.specs.Walk.{Object}
use Rattle.fc_image.specs.effects.Steady.{SameSectors, idle_sectors, lost_sectors, may_be_rewritten}
use Rattle.fc_runs.specs.Space.{SparesSpace}

-- the sectors of lost space, and on a new map those of identifier 1
abbrev pub idle_in : Layout → Opened → List ℕ
idle_in (Layout.New m) v = idle_sectors v m
idle_in (Layout.Old space) v = lost_sectors space (objects_of v.listings)

-- Each of these has the bytes that it had: a file, a directory that the command needn't rewrite, the boot block, lost space, and what
-- lies behind the disc. Of free space and of the map it leaves what Space says.
pub record Spares (kind : Kind) (v : Opened) (c : Command) (was image : List ℕ) : Type 0 where
  pub length_stays : length image ≡ length was
  pub files : (o : Object) → Contains (objects_of v.listings) o → is_directory_object o ≡ false → SameSectors (sector_bytes v.layout) o.sectors was image
  pub directories : (o : Object) → Contains (objects_of v.listings) o → may_be_rewritten v c o.path ≡ false → SameSectors (sector_bytes v.layout) o.sectors was image
  pub boot : SameSectors (sector_bytes v.layout) (boot_place kind (sector_bytes v.layout)) was image
  pub lost : SameSectors (sector_bytes v.layout) (idle_in v.layout v) was image
  pub behind : (s : ℕ) → disc_sectors v.layout ≤ s → is_among (map_place v.layout) s ≡ false → sector_at (sector_bytes v.layout) image s ≡ sector_at (sector_bytes v.layout) was s
  pub space : SparesSpace v.layout v c was image
