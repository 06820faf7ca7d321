-- Images that open to the very same tree.
use Rattle.fc_record.specs.Record.{geometry}
use Rattle.fc_record.specs.declared.Kind.TheVariants.{Boot, OneZone, DiscD, DiscL}
use Rattle.fc_record.specs.declared.DiscRecord.{DiscRecord}
use Rattle.std.specs.Prelude.{◌≡◌, ℕ, Bool, true, false, ◌||◌, ◌==◌, List, length, map, filter, not, Ok, Contains, All}
use Rattle.fc_device.specs.Sectors.{sector_at}
use Rattle.fc_record.specs.declared.Kind.{Kind}
use Rattle.fc_bytes.specs.Words.{bytes_at}
use Rattle.fc_record.specs.Kinds.{boot_block, IsKind}
use Rattle.fc_names.specs.Names.{Path}
use Rattle.fc_dirs.specs.declared.Entry.{Entry}
use Rattle.fc_zone.specs.declared.RunKind.{RunKind}
use Rattle.fc_zone.specs.declared.RunKind.TheVariants as kinds
use Rattle.fc_newmap.specs.Map.{Map, all_runs, id_runs, sectors_of, map_sectors}
use Rattle.fc_newmap.specs.Copies.{HoldsCopies}
use Rattle.fc_image.specs.Layout.{Layout, hole_sectors, map_place, is_among, is_apart}
use Rattle.fc_image.specs.Walk.{Listing, Object, object_bytes}
use Rattle.fc_image.specs.Objects.{objects_of, tree_of, is_lost}
use Rattle.fc_image.specs.Opening.{Opened, open_as}

-- the image opens as a disc of that kind, and says this; the kind's record is a valid one as its bytes say it
pub record OpensAs (image : List ℕ) (kind : Kind) (v : Opened) : Type 0 where
  pub kind_right : IsKind kind
  pub opened : open_as image kind ≡ Ok v

-- identifiers 1 and 2 and lost identifiers
abbrev pub is_fixed : List Object → ℕ → Bool
is_fixed objects id = (id == 1) || (id == 2) || is_lost objects id

-- a run of such an identifier
abbrev pub is_fixed_run : List Object → RunKind → Bool
is_fixed_run objects kinds.Hole = false
is_fixed_run objects (kinds.Id id) = is_fixed objects id

-- their sectors that don't hold the map
abbrev pub fixed_sectors : Map → List Object → List ℕ
fixed_sectors m objects =
    filter (λ s. not (is_among (map_place (Layout.New m)) s)) (sectors_of m.geometry (filter (λ p. is_fixed_run objects p.1.kind) (all_runs m)))

-- On a new map they keep their runs.
abbrev pub FixedStay : Layout → Layout → List Object → Type 0
FixedStay (Layout.New m) (Layout.New m') objects = (id : ℕ) → is_fixed objects id ≡ true → id_runs m' id ≡ id_runs m id
FixedStay _ _ objects = ⊥

-- On a new map they keep their bytes outside the map.
abbrev pub FixedBytesStay : Layout → List Object → List ℕ → List ℕ → Type 0
FixedBytesStay (Layout.New m) objects old new = All (λ s. sector_at m.geometry.sector new s ≡ sector_at m.geometry.sector old s) (fixed_sectors m objects)
FixedBytesStay _ objects old new = ⊥

-- an object as it is stored: its path, its entry, and its bytes
abbrev pub stored_object : List ℕ → Layout → Object → Path × Entry × List ℕ
stored_object image layout o = (o.path, o.entry, object_bytes image layout o)

-- all objects as they are stored, the root with its address too
abbrev pub stored_objects : List ℕ → Opened → List (Path × Entry × List ℕ)
stored_objects image v = map (stored_object image v.layout) (objects_of v.listings)

-- The image opens as the old one did, every object has its address and its bytes, and with them the tree is the same;
-- identifiers 1 and 2 and lost ones keep their runs, and their bytes outside the map.
pub record StaysWhole (kind : Kind) (old : List ℕ) (v : Opened) (image : List ℕ) : Type 0 where
  pub view : Opened
  pub opens : OpensAs image kind view
  pub objects : stored_objects image view ≡ stored_objects old v
  pub fixed : FixedStay v.layout view.layout (objects_of v.listings)
  pub fixed_bytes : FixedBytesStay v.layout (objects_of v.listings) old image

-- the image opens as the old one did, with the same tree
pub record KeepsTree (kind : Kind) (old : List ℕ) (v : Opened) (image : List ℕ) : Type 0 where
  pub view : Opened
  pub opens : OpensAs image kind view
  pub tree : tree_of image view.layout view.listings ≡ tree_of old v.layout v.listings

-- If all objects are stored alike, the trees are the same.
abbrev pub StoredLaw : Type 0
StoredLaw = (image other : List ℕ) (v w : Opened) → stored_objects other w ≡ stored_objects image v
    → tree_of other w.layout w.listings ≡ tree_of image v.layout v.listings

-- both copies are those of the opened map, equal and sound
abbrev pub HasEqualCopies : List ℕ → Layout → Type 0
HasEqualCopies image (Layout.New m) = HoldsCopies m.geometry m.zones image
HasEqualCopies image (Layout.Old space) = Unit {0}

-- The layout is a new map.
abbrev pub IsNewLayout : Layout → Type 0
IsNewLayout (Layout.New m) = Unit {0}
IsNewLayout (Layout.Old space) = ⊥

-- ---- what counts for nothing

-- the image has these sectors as the other has them
abbrev pub HasSectorsOf : ℕ → List ℕ → List ℕ → List ℕ → Type 0
HasSectorsOf size sectors other image = (s : ℕ) → is_among sectors s ≡ true → sector_at size image s ≡ sector_at size other s

-- the record of a kind with a new map
abbrev pub IsNewKind : Kind → DiscRecord → Type 0
IsNewKind (Boot r) s = r ≡ s
IsNewKind (OneZone r) s = r ≡ s
IsNewKind DiscD s = ⊥
IsNewKind (DiscL units) s = ⊥

-- the bytes that the kind's own test reads are the same
abbrev pub SameKindPlace : Kind → List ℕ → List ℕ → Type 0
SameKindPlace (Boot r) image other = boot_block other ≡ boot_block image
SameKindPlace (OneZone r) image other = (bytes_at other 0 1024 ≡ bytes_at image 0 1024) × (bytes_at other 1024 1024 ≡ bytes_at image 1024 1024)
SameKindPlace DiscD image other = ⊥
SameKindPlace (DiscL units) image other = ⊥

-- What lies outside the map, the place of the kind's test and all objects counts for nothing: the other image opens as
-- the same, and each object has its bytes, so that the tree is the same.
abbrev pub FreeLaw : Type 0
FreeLaw = (image other : List ℕ) (kind : Kind) (r : DiscRecord) (v : Opened) → IsNewKind kind r → OpensAs image kind v → length other ≡ length image
    → SameKindPlace kind image other
    → HasSectorsOf (geometry r).sector (map_sectors (geometry r)) image other
    → ((l : Listing) → Contains v.listings l → HasSectorsOf (geometry r).sector l.object.sectors image other)
    → ((o : Object) → Contains (objects_of v.listings) o → HasSectorsOf (geometry r).sector o.sectors image other)
    → OpensAs other kind v × (stored_objects other v ≡ stored_objects image v)

-- Holes lie apart from the map and all objects. With the law above this is the law of holes: what is written into a hole
-- leaves the image as it opens.
abbrev pub HolesLaw : Type 0
HolesLaw = (image : List ℕ) (kind : Kind) (r : DiscRecord) (v : Opened) → IsNewKind kind r → OpensAs image kind v
    → (is_apart (map_place v.layout) (hole_sectors v.layout) ≡ true)
    × ((o : Object) → Contains (objects_of v.listings) o → is_apart o.sectors (hole_sectors v.layout) ≡ true)

-- The images have the same sectors outside the holes of the layout.
abbrev pub SameOutsideHoles : ℕ → Layout → List ℕ → List ℕ → Type 0
SameOutsideHoles size layout image other = (s : ℕ) → is_among (hole_sectors layout) s ≡ false → sector_at size other s ≡ sector_at size image s

-- An image that differs only in sectors that lie in holes opens as the same, with the same objects.
abbrev pub HoleWriteLaw : Type 0
HoleWriteLaw = (image other : List ℕ) (kind : Kind) (r : DiscRecord) (v : Opened) → IsNewKind kind r → OpensAs image kind v
    → length other ≡ length image → SameOutsideHoles (geometry r).sector v.layout image other
    → OpensAs other kind v × (stored_objects other v ≡ stored_objects image v)
