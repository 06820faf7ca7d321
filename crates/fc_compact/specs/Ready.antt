-- What compaction needs of an image, and has again after each of its steps.
use Rattle.std.specs.Prelude.{◌≡◌, ◌≤◌, ℕ, ◌+◌, ◌*◌, ◌==◌, ◌||◌, ◌&&◌, nat_le, Bool, List, IsTrue, IsFalse}
use Rattle.std.specs.Option.{ForSome}
use Rattle.fc_device.specs.declared.disk.Disk.{Ghosts}
use Rattle.fc_record.specs.declared.DiscRecord.{DiscRecord}
use Rattle.fc_record.specs.declared.Kind.{Kind}
use Rattle.fc_newmap.specs.Map.{Map}
use Rattle.fc_alloc.specs.declared.owner.Owner.{Owner}
use Rattle.fc_alloc.specs.Owners.{is_id_owned}
use Rattle.fc_newmap.specs.Copies.{HoldsCopies}
use Rattle.fc_image.specs.Layout.{Layout, disc_sectors}
use Rattle.fc_image.specs.Objects.{objects_of, is_owned}
use Rattle.fc_image.specs.Walk.{Object}
use Rattle.fc_image.specs.Opening.{Opened}
use Rattle.fc_image.specs.Stays.{IsNewKind, OpensAs}

-- By these owners the identifier is one that may move.
abbrev pub is_movable_by : List Owner → ℕ → Bool
is_movable_by owners id = is_id_owned owners id && nat_le 3 id

-- They own the identifiers that the objects own.
abbrev pub AreOwnersOf : List Owner → List Object → Type 0
AreOwnersOf owners objects = (id : ℕ) → ((id == 2) || is_id_owned owners id) ≡ is_owned objects id

-- The image opens as a kind with this map, of which it has two equal and sound copies, and these are its owners.
pub record IsReady (m : Map) (owners : List Owner) (image : List ℕ) : Type 0 where
  pub kind : Kind
  pub of_record : DiscRecord
  pub view : Opened
  pub new_kind : IsNewKind kind of_record
  pub opens : OpensAs image kind view
  pub layout : view.layout ≡ Layout.New m
  pub copies : HoldsCopies m.geometry m.zones image
  pub owned : AreOwnersOf owners (objects_of view.listings)

-- The disk is attached, has sectors of the map's size, and holds the disc.
pub record HoldsDisc {D : Type 0} (d : Ghosts D) (disk : D) (m : Map) : Type 0 where
  pub attached : IsTrue (d.attached disk)
  pub size : d.sector_size disk ≡ m.geometry.sector
  pub room : disc_sectors (Layout.New m) ≤ d.sectors disk

-- The map stands for the disk, with these owners: the disk holds the disc and both copies of the map, nothing is pending, and its
-- bytes, if it tells them, are an image that is ready.
pub record Stands {D : Type 0} (d : Ghosts D) (disk : D) (m : Map) (owners : List Owner) : Type 0 where
  pub disc : HoldsDisc d disk m
  pub copies : m.geometry.map_sector + 2 * m.geometry.zones ≤ d.sectors disk
  pub settled : IsFalse (d.pending disk)
  pub ready : ForSome (d.bytes disk) (IsReady m owners)
