-- What is written into the sectors of an object is there, and it stays if other sectors are written, on a disc with an old map.
use Rattle.std.specs.Prelude.{◌≡◌, ◌≤◌, ◌*◌, ℕ, true, List, [], length}
use Rattle.fc_oldmap.specs.OldMap.{OldMapContent, IsOldMap}
use Rattle.fc_dirs.specs.Directory.{Directory}
use Rattle.fc_image.specs.Layout.{Layout, bytes_in, dir_form, is_among, is_apart, map_place, sector_bytes}
use Rattle.fc_image.specs.Walk.{Object, object_bytes, object_size}
use Rattle.fc_image.specs.Edits.{IsAt}
use Rattle.fc_image.specs.Stays.{HasSectorsOf}
use Rattle.fc_image.specs.effects.Steady.{AreWritten}
use Rattle.fc_objects.specs.Bytes.{first_bytes}
use Rattle.fc_objects.specs.Written.{AreApart, IsPartWritten}
use Rattle.fc_changes.specs.old.Owed.{IsWritten, MapStays}

-- One step: only these sectors are written, and none of the map.
pub record IsObjectStep (space : OldMapContent) (sectors image image' : List ℕ) : Type 0 where
  pub written : IsWritten space sectors image image'
  pub map_stays : MapStays space image image'

-- Sectors that are apart from those that were written, and from the map.
pub record IsUnwritten (space : OldMapContent) (sectors written : List ℕ) : Type 0 where
  pub apart : is_apart sectors written ≡ true
  pub no_map : is_apart sectors (map_place (Layout.Old space)) ≡ true

-- The bytes of an object, as a writer of its sectors leaves them.
pub record IsObjectWritten (space : OldMapContent) (o : Object) (bytes image : List ℕ) : Type 0 where
  pub long : length bytes ≡ object_size (dir_form (Layout.Old space)) o.entry
  pub reads_back : first_bytes (sector_bytes (Layout.Old space)) image o.sectors (length bytes) ≡ bytes

pub record WrittenBytesLaw : Type 0 where
  -- ---- what is written
  -- a part of an object's bytes, also if the writer failed or a crash came
  pub part : (space : OldMapContent) (sectors bytes image image' : List ℕ) → IsPartWritten (sector_bytes (Layout.Old space)) sectors bytes image image' → IsWritten space sectors image image'
  -- the same apart from the map
  pub step : (space : OldMapContent) (sectors bytes image image' : List ℕ) → is_apart sectors (map_place (Layout.Old space)) ≡ true
      → IsPartWritten (sector_bytes (Layout.Old space)) sectors bytes image image' → IsObjectStep space sectors image image'
  -- a part of the map
  pub map : (space : OldMapContent) (bytes image image' : List ℕ) → IsPartWritten (sector_bytes (Layout.Old space)) (map_place (Layout.Old space)) bytes image image' → IsWritten space [] image image'
  -- no more than these sectors
  pub within : (space : OldMapContent) (xs ys image image' : List ℕ) → ((s : ℕ) → is_among xs s ≡ true → is_among ys s ≡ true) → IsWritten space xs image image' → IsWritten space ys image image'
  -- ---- what stays
  pub sectors_stay : (space : OldMapContent) (sectors written image image' : List ℕ) → IsUnwritten space sectors written → IsWritten space written image image'
      → HasSectorsOf (sector_bytes (Layout.Old space)) sectors image image'
  pub bytes_stay : (space : OldMapContent) (sectors written image image' : List ℕ) (n : ℕ) → IsUnwritten space sectors written → IsWritten space written image image'
      → bytes_in (sector_bytes (Layout.Old space)) image' sectors n ≡ bytes_in (sector_bytes (Layout.Old space)) image sectors n
  pub object_stays : (space : OldMapContent) (o : Object) (written image image' : List ℕ) → IsUnwritten space o.sectors written → IsWritten space written image image'
      → object_bytes image' (Layout.Old space) o ≡ object_bytes image (Layout.Old space) o
  -- ---- what the sectors of an object are for its writer
  -- none is there twice, and they have room
  pub apart : (space : OldMapContent) (o : Object) → IsOldMap space → IsAt (Layout.Old space) o → AreApart o.sectors
  pub room : (space : OldMapContent) (o : Object) → IsOldMap space → IsAt (Layout.Old space) o → object_size (dir_form (Layout.Old space)) o.entry ≤ length o.sectors * sector_bytes (Layout.Old space)
  -- ---- what is there
  pub stored : (space : OldMapContent) (o : Object) (bytes image : List ℕ) → IsObjectWritten space o bytes image → object_bytes image (Layout.Old space) o ≡ bytes
  pub directory : (space : OldMapContent) (o : Object) (content : Directory) (bytes image : List ℕ) → IsObjectWritten space o bytes image → AreWritten bytes content
      → AreWritten (object_bytes image (Layout.Old space) o) content
