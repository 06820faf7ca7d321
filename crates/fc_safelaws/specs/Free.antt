-- Sectors in which nothing of an opened image lies: what is written to them changes nothing.
use Rattle.std.specs.Prelude.{◌≡◌, ◌⊎◌, ℕ, true, false, List, length, Contains}
use Rattle.fc_device.specs.Sectors.{sector_at}
use Rattle.fc_record.specs.declared.DiscRecord.{DiscRecord}
use Rattle.fc_record.specs.declared.Geometry.{Geometry}
use Rattle.fc_record.specs.declared.Kind.{Kind}
use Rattle.fc_newmap.specs.Map.{Map, map_sectors}
use Rattle.fc_newmap.specs.Copies.{Chooses}
use Rattle.fc_image.specs.Layout.{Layout, hole_sectors, id_sectors, is_among, is_apart}
use Rattle.fc_image.specs.Walk.{Listing, Object}
use Rattle.fc_image.specs.Objects.{is_movable, objects_of}
use Rattle.fc_image.specs.Opening.{Opened, boot_place, reserved_in}
use Rattle.fc_image.specs.Stays.{HasSectorsOf, IsNewKind, OpensAs, stored_objects}

-- an image that opens with a new map
pub record MappedImage : Type 0 where
  pub kind : Kind
  pub r : DiscRecord
  pub m : Map
  pub listings : List Listing
  pub image : List ℕ
  pub new_kind : IsNewKind kind r
  pub opens : OpensAs image kind (record { kind = kind; layout = Layout.New m; listings = listings })

-- as what it opens
abbrev pub view : MappedImage → Opened
view x = record { kind = x.kind; layout = Layout.New x.m; listings = x.listings }

-- Nothing lies in these sectors: not the map, not the kind's boot block, no object.
pub record AreFree (kind : Kind) (m : Map) (objects : List Object) (free : List ℕ) : Type 0 where
  pub reserved : is_apart free (reserved_in kind (Layout.New m)) ≡ true
  pub objects_apart : (o : Object) → Contains objects o → is_apart o.sectors free ≡ true

-- The images differ at most in the map and in these sectors.
pub record ChangesFree (g : Geometry) (free was image : List ℕ) : Type 0 where
  pub same_length : length image ≡ length was
  pub outside : (s : ℕ) → is_among free s ≡ false → is_among (map_sectors g) s ≡ false → sector_at g.sector image s ≡ sector_at g.sector was s

-- a sector of a hole, or one of a movable identifier in which no object lies
abbrev pub IsFreeSector : Map → List Object → ℕ → Type 0
IsFreeSector m objects s =
    (is_among (hole_sectors (Layout.New m)) s ≡ true)
    ⊎ ((id : ℕ) × (is_movable objects id ≡ true) × (is_among (id_sectors m id) s ≡ true) × ((o : Object) → Contains objects o → is_among o.sectors s ≡ false))

pub record FreeSpaceLaw : Type 0 where
  -- Nothing lies in such sectors.
  pub sectors : (x : MappedImage) (free : List ℕ) → ((s : ℕ) → is_among free s ≡ true → IsFreeSector x.m (objects_of x.listings) s) → AreFree x.kind x.m (objects_of x.listings) free
  -- Whatever is written there, and whatever becomes of the map: all objects and the boot block keep their sectors' bytes.
  pub objects : (x : MappedImage) (free other : List ℕ) → AreFree x.kind x.m (objects_of x.listings) free → ChangesFree x.m.geometry free x.image other
      → (o : Object) → Contains (objects_of x.listings) o → HasSectorsOf x.m.geometry.sector o.sectors x.image other
  pub boot : (x : MappedImage) (free other : List ℕ) → AreFree x.kind x.m (objects_of x.listings) free → ChangesFree x.m.geometry free x.image other
      → HasSectorsOf x.m.geometry.sector (boot_place x.kind x.m.geometry.sector) x.image other
  -- As long as the copy of the map that counts is the old one, whatever is torn in the other, the image opens as it did, with the same
  -- objects.
  pub opens : (x : MappedImage) (free other : List ℕ) → AreFree x.kind x.m (objects_of x.listings) free → ChangesFree x.m.geometry free x.image other
      → Chooses x.m.geometry x.m.zones other → OpensAs other x.kind (view x) × (stored_objects other (view x) ≡ stored_objects x.image (view x))
