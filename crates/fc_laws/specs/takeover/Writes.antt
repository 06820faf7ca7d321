-- What is written into the sectors of an object is there, and it stays if other sectors are written.
use Rattle.std.specs.Prelude.{◌≡◌, ◌≤◌, ℕ, ◌*◌, true, List, [], length}
use Rattle.fc_newmap.specs.Map.{Map, map_sectors}
use Rattle.fc_newmap.specs.NewMap.{IsNewMap}
use Rattle.fc_newmap.specs.Copies.{ChangesCopies, HoldsCopies}
use Rattle.fc_dirs.specs.Directory.{Directory}
use Rattle.fc_image.specs.Layout.{Layout, bytes_in, dir_form, is_among, is_apart}
use Rattle.fc_image.specs.Walk.{Object, object_bytes, object_size}
use Rattle.fc_image.specs.Edits.{IsAt}
use Rattle.fc_image.specs.Stays.{HasSectorsOf}
use Rattle.fc_image.specs.effects.Steady.{AreWritten}
use Rattle.fc_objects.specs.Bytes.{first_bytes}
use Rattle.fc_objects.specs.Written.{AreApart, IsPartWritten}
use Rattle.fc_changes.specs.Owed.{IsWritten}

-- Sectors that are apart from those that were written, and from the map.
pub record IsUnwritten (m : Map) (sectors written : List ℕ) : Type 0 where
  pub apart : is_apart sectors written ≡ true
  pub no_map : is_apart sectors (map_sectors m.geometry) ≡ true

-- The bytes of an object by the map m', whose geometry is that of m, as a writer of its sectors leaves them.
pub record IsObjectWritten (m m' : Map) (o : Object) (bytes image : List ℕ) : Type 0 where
  pub geometry : m'.geometry ≡ m.geometry
  pub long : length bytes ≡ object_size (dir_form (Layout.New m')) o.entry
  pub reads_back : first_bytes m.geometry.sector image o.sectors (length bytes) ≡ bytes

pub record WrittenBytesLaw : Type 0 where
  -- ---- what is written
  -- a part of an object's bytes, also if the writer failed or a crash came
  pub part : (m : Map) (sectors bytes image image' : List ℕ) → IsPartWritten m.geometry.sector sectors bytes image image' → IsWritten m sectors image image'
  -- the copies of the map, also if the commit failed or a crash came
  pub copies : (m : Map) (image image' : List ℕ) → ChangesCopies m.geometry image image' → IsWritten m [] image image'
  -- no more than these sectors
  pub within : (m : Map) (xs ys image image' : List ℕ) → ((s : ℕ) → is_among xs s ≡ true → is_among ys s ≡ true) → IsWritten m xs image image' → IsWritten m ys image image'
  -- by another map of the same geometry
  pub again : (m m' : Map) (xs image image' : List ℕ) → m'.geometry ≡ m.geometry → IsWritten m' xs image image' → IsWritten m xs image image'
  -- ---- what stays
  -- the map, if only sectors of an object are written
  pub map_stays : (m : Map) (sectors bytes image image' : List ℕ) → is_apart sectors (map_sectors m.geometry) ≡ true → IsPartWritten m.geometry.sector sectors bytes image image'
      → HasSectorsOf m.geometry.sector (map_sectors m.geometry) image image'
  pub copies_stay : (m : Map) (zones : List (List ℕ)) (image image' : List ℕ) → HasSectorsOf m.geometry.sector (map_sectors m.geometry) image image' → HoldsCopies m.geometry zones image
      → HoldsCopies m.geometry zones image'
  pub sectors_stay : (m : Map) (sectors written image image' : List ℕ) → IsUnwritten m sectors written → IsWritten m written image image' → HasSectorsOf m.geometry.sector sectors image image'
  pub bytes_stay : (m : Map) (sectors written image image' : List ℕ) (n : ℕ) → IsUnwritten m sectors written → IsWritten m written image image'
      → bytes_in m.geometry.sector image' sectors n ≡ bytes_in m.geometry.sector image sectors n
  pub object_stays : (m m' : Map) (o : Object) (written image image' : List ℕ) → m'.geometry ≡ m.geometry → IsUnwritten m o.sectors written → IsWritten m written image image'
      → object_bytes image' (Layout.New m') o ≡ object_bytes image (Layout.New m') o
  -- ---- what the sectors of an object are for its writer
  -- none is there twice, and they have room
  pub apart : (m : Map) (o : Object) → IsNewMap m → IsAt (Layout.New m) o → AreApart o.sectors
  pub room : (m : Map) (o : Object) → IsNewMap m → IsAt (Layout.New m) o → object_size (dir_form (Layout.New m)) o.entry ≤ length o.sectors * m.geometry.sector
  -- ---- what is there
  pub stored : (m m' : Map) (o : Object) (bytes image : List ℕ) → IsObjectWritten m m' o bytes image → object_bytes image (Layout.New m') o ≡ bytes
  pub directory : (m m' : Map) (o : Object) (content : Directory) (bytes image : List ℕ) → IsObjectWritten m m' o bytes image → AreWritten bytes content
      → AreWritten (object_bytes image (Layout.New m') o) content
