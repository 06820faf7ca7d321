-- `rename` of a file that is copied: what it writes, one step after another, and that it then has done what it promises.
use Rattle.std.specs.Prelude.{◌≡◌, ◌<◌, ℕ, List, length, get_or}
use Rattle.fc_device.specs.Sectors.{sector_at}
use Rattle.fc_newmap.specs.Map.{Map}
use Rattle.fc_image.specs.Layout.{Layout, dir_form}
use Rattle.fc_image.specs.Walk.{Object, object_bytes, object_size}
use Rattle.fc_image.specs.Edits.{IsAt}

-- ---- the copy's bytes

-- Each sector of `to` now has the bytes that the sector of `from` of the same place had.
abbrev pub AreCopied : ℕ → List ℕ → List ℕ → List ℕ → List ℕ → Type 0
AreCopied size was image from to = (i : ℕ) → i < length to → sector_at size image (get_or to i 0) ≡ sector_at size was (get_or from i 0)

-- An object of as many bytes, whose sectors have been copied one by one, has the bytes of the other.
abbrev pub CopiedBytesLaw : Type 0
CopiedBytesLaw = (m m' : Map) (o copy : Object) (was image : List ℕ) → m'.geometry ≡ m.geometry → IsAt (Layout.New m) o → IsAt (Layout.New m') copy
    → object_size (dir_form (Layout.New m')) copy.entry ≡ object_size (dir_form (Layout.New m)) o.entry
    → AreCopied m.geometry.sector was image o.sectors copy.sectors → object_bytes image (Layout.New m') copy ≡ object_bytes was (Layout.New m) o
