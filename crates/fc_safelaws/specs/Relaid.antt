-- Objects that keep their addresses while the map gives them other sectors.
use Rattle.std.specs.Prelude.{◌≡◌, ◌<◌, ◌≤◌, ◌+◌, ℕ, true, List, length, get_or}
use Rattle.std.specs.Int.{div_ceil}
use Rattle.fc_device.specs.Sectors.{sector_at}
use Rattle.fc_newmap.specs.Map.{Map}
use Rattle.fc_newmap.specs.NewMap.{IsNewMap}
use Rattle.fc_image.specs.Layout.{Layout, dir_form, id_of, id_sectors, is_apart, is_object_id, low_of, low_start}
use Rattle.fc_image.specs.Walk.{Object, object_bytes, object_size}
use Rattle.fc_image.specs.Edits.{IsAt}
use Rattle.fc_image.specs.Moves.{object_in}

-- By the map m' the object has the same place inside its identifier as by the map m, and as many bytes.
pub record IsRelaid (m m' : Map) (o o' : Object) : Type 0 where
  pub address : o'.entry.address ≡ o.entry.address
  pub size : object_size (dir_form (Layout.New m)) o'.entry ≡ object_size (dir_form (Layout.New m)) o.entry
  pub before : IsAt (Layout.New m) o
  pub now : IsAt (Layout.New m') o'

-- The identifier has the object's sectors by the map. Of an object of no bytes the address says nothing.
pub record Reaches (m : Map) (o : Object) : Type 0 where
  pub id : 0 < object_size (dir_form (Layout.New m)) o.entry → is_object_id m (id_of o.entry.address) ≡ true
  pub long : 0 < object_size (dir_form (Layout.New m)) o.entry
      → low_start m (low_of o.entry.address) + div_ceil (object_size (dir_form (Layout.New m)) o.entry) m.geometry.sector ≤ length (id_sectors m (id_of o.entry.address))

-- Each sector of `to` has the bytes that the sector of `from` of the same place had.
abbrev pub AreCopied : ℕ → List ℕ → List ℕ → List ℕ → List ℕ → Type 0
AreCopied size was image from to = (i : ℕ) → i < length to → sector_at size image (get_or to i 0) ≡ sector_at size was (get_or from i 0)

pub record RelaidLaw : Type 0 where
  -- If its identifier reaches so far, the object has its place there.
  pub placed : (m : Map) (o : Object) → Reaches m o → IsAt (Layout.New m) (object_in (Layout.New m) o)
  -- It has as many sectors as before.
  pub as_many : (m m' : Map) (o o' : Object) → m'.geometry ≡ m.geometry → IsRelaid m m' o o' → length o'.sectors ≡ length o.sectors
  -- Two that lay apart lie apart by the new map too.
  pub apart : (m m' : Map) (o p o' p' : Object) → IsNewMap m' → m'.geometry ≡ m.geometry → IsRelaid m m' o o' → IsRelaid m m' p p'
      → is_apart o.sectors p.sectors ≡ true → is_apart o'.sectors p'.sectors ≡ true
  -- An object whose sectors have been copied has its bytes.
  pub bytes : (m m' : Map) (o o' : Object) (was image : List ℕ) → m'.geometry ≡ m.geometry → IsRelaid m m' o o' → AreCopied m.geometry.sector was image o.sectors o'.sectors
      → object_bytes image (Layout.New m') o' ≡ object_bytes was (Layout.New m) o
