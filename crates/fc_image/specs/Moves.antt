-- Maps that change while the tree stays: runs that move into holes, and runs that become one.
use Rattle.std.specs.Prelude.{◌≡◌, ◌<◌, ◌≤◌, ◌+◌, ◌⊎◌, ℕ, slice_index, true, false, List, [], ◌∷◌, ◌++◌, length, map, filter, Option, Some, None, Ok}
use Rattle.std.specs.List.{range_with_len}
use Rattle.fc_device.specs.Sectors.{sector_at}
use Rattle.fc_record.specs.declared.DiscRecord.{DiscRecord}
use Rattle.fc_record.specs.declared.Kind.{Kind}
use Rattle.fc_record.specs.declared.Kind.TheVariants.{Boot, OneZone}
use Rattle.fc_record.specs.declared.Geometry.{Geometry}
use Rattle.fc_record.specs.Kinds.{IsKind, map_record, fits_kind, looks_earlier}
use Rattle.fc_newmap.specs.Map.{Map, IsMap, sector_of, id_runs, all_runs, sectors_of, map_sectors}
use Rattle.fc_newmap.specs.Copies.{Chooses, CommitLeaves}
use Rattle.fc_image.specs.Layout.{Layout, dir_form, sectors_at, id_sectors, hole_sectors, is_among, is_apart}
use Rattle.fc_image.specs.Walk.{Object, Listing, object_size}
use Rattle.fc_image.specs.Objects.{objects_of, tree_of, is_movable, is_owned}
use Rattle.fc_image.specs.Opening.{Opened, MapAndRoot, map_and_root, is_hole_or_movable, boot_place}
use Rattle.fc_image.specs.Stays.{IsNewKind, OpensAs, StaysWhole, stored_objects, FixedStay, FixedBytesStay, SameOutsideHoles}

-- ---- what is opened, if the map is another

-- the sectors, if there are any
abbrev pub sectors_or_none : Option (List ℕ) → List ℕ
sectors_or_none None = []
sectors_or_none (Some sectors) = sectors

-- the object if the layout has its address
abbrev pub object_in : Layout → Object → Object
object_in layout o = record o { sectors = sectors_or_none (sectors_at layout o.entry.address (object_size (dir_form layout) o.entry)) }

-- a directory and its objects by another layout
abbrev pub listing_in : Layout → Listing → Listing
listing_in layout l = record { object = object_in layout l.object; content = l.content; children = map (object_in layout) l.children }

-- the same directories and objects by this map
abbrev pub with_map : Map → Opened → Opened
with_map m v = record { kind = v.kind; layout = Layout.New m; listings = map (listing_in (Layout.New m)) v.listings }

-- ---- from one map to another

-- The map of the second image is m', of the same geometry and record, and the images differ only in the map and in holes of m.
pub record Turns (m m' : Map) (image other : List ℕ) : Type 0 where
  pub geometry_stays : m'.geometry ≡ m.geometry
  pub record_stays : map_record (sector_of m' 0) ≡ map_record (sector_of m 0)
  pub is_map : IsMap m'
  pub chosen_map : Chooses m.geometry m'.zones other
  pub length_stays : length other ≡ length image
  pub outside : (s : ℕ) → is_among (map_sectors m.geometry) s ≡ false → is_among (hole_sectors (Layout.New m)) s ≡ false
      → sector_at m.geometry.sector other s ≡ sector_at m.geometry.sector image s

-- Any number of movable identifiers move at once: the sector s to sector f s.
pub record Carries (m m' : Map) (objects : List Object) (image other : List ℕ) (f : ℕ → ℕ) : Type 0 where
  pub turns : Turns m m' image other
  pub fixed : (k : ℕ) → is_movable objects k ≡ false → id_runs m' k ≡ id_runs m k
  -- an identifier's sectors are carried, in order, and there may be more after them
  pub ids : (k : ℕ) → (extra : List ℕ) × (id_sectors m' k ≡ map f (id_sectors m k) ++ extra)
  pub bytes : (k s : ℕ) → is_among (id_sectors m k) s ≡ true → is_among (map_sectors m.geometry) s ≡ false
      → sector_at m.geometry.sector other (f s) ≡ sector_at m.geometry.sector image s
  -- sectors that lie in no hole stay different, and only those of movable identifiers move
  pub one : (s t : ℕ) → is_among (hole_sectors (Layout.New m)) s ≡ false → is_among (hole_sectors (Layout.New m)) t ≡ false → f s ≡ f t → s ≡ t
  pub rest : (s : ℕ) → is_among (sectors_of m.geometry (filter (λ p. is_hole_or_movable objects p.1.kind) (all_runs m))) s ≡ false → f s ≡ s

-- The new sectors begin with as many as the old ones; each has the bytes of its old one, and is that one or was in a hole.
abbrev pub Carried : ℕ → List ℕ → List ℕ → List ℕ → List ℕ → List ℕ → Type 0
Carried size image other holes [] new = Unit {0}
Carried size image other holes (s ∷ old) [] = ⊥
Carried size image other holes (s ∷ old) (t ∷ new) =
    (sector_at size other t ≡ sector_at size image s) × ((t ≡ s) ⊎ (is_among holes t ≡ true)) × Carried size image other holes old new

-- the runs of one movable identifier are others, to which its sectors were carried
pub record MovesOne (m m' : Map) (objects : List Object) (id : ℕ) (image other : List ℕ) : Type 0 where
  pub turns : Turns m m' image other
  pub movable : is_movable objects id ≡ true
  pub others : (k : ℕ) → (k ≡ id → ⊥) → id_runs m' k ≡ id_runs m k
  pub carried : Carried m.geometry.sector image other (hole_sectors (Layout.New m)) (id_sectors m id) (id_sectors m' id)

-- each identifier keeps its sectors, and those that aren't movable keep their runs
pub record MovesNone (m m' : Map) (objects : List Object) (image other : List ℕ) : Type 0 where
  pub turns : Turns m m' image other
  pub fixed : (k : ℕ) → is_movable objects k ≡ false → id_runs m' k ≡ id_runs m k
  pub sectors : (k : ℕ) → id_sectors m' k ≡ id_sectors m k

-- The second image opens as the same directories and objects by the map m', with the same tree; what may not move stays;
-- and each identifier is owned as before.
pub record StaysBy (kind : Kind) (image : List ℕ) (v : Opened) (m' : Map) (other : List ℕ) : Type 0 where
  pub opens : OpensAs other kind (with_map m' v)
  pub objects : stored_objects other (with_map m' v) ≡ stored_objects image v
  pub tree : tree_of other (Layout.New m') (with_map m' v).listings ≡ tree_of image v.layout v.listings
  pub fixed : FixedStay v.layout (Layout.New m') (objects_of v.listings)
  pub fixed_bytes : FixedBytesStay v.layout (objects_of v.listings) image other
  pub owned : (k : ℕ) → is_owned (objects_of (with_map m' v).listings) k ≡ is_owned (objects_of v.listings) k

-- No sector of the boot block of an image that opens holds the map.
abbrev pub BootApartLaw : Type 0
BootApartLaw = (image : List ℕ) (kind : Kind) (v : Opened) (m : Map) → OpensAs image kind v → v.layout ≡ Layout.New m
    → is_apart (boot_place kind m.geometry.sector) (map_sectors m.geometry) ≡ true

-- A disc with a boot block passes its kind's own test, if it differs from one that opens only in the map and in holes.
abbrev pub BootStaysLaw : Type 0
BootStaysLaw = (image other : List ℕ) (r : DiscRecord) (v : Opened) (m : Map) → OpensAs image (Boot r) v → v.layout ≡ Layout.New m
    → length other ≡ length image
    → ((s : ℕ) → is_among (map_sectors m.geometry) s ≡ false → is_among (hole_sectors (Layout.New m)) s ≡ false
    → sector_at m.geometry.sector other s ≡ sector_at m.geometry.sector image s)
    → fits_kind other (Boot r) ≡ true

-- A disc of one zone passes its kind's own test, if its map is found.
abbrev pub ZoneFitsLaw : Type 0
ZoneFitsLaw = (image : List ℕ) (r : DiscRecord) (found : MapAndRoot) → IsKind (OneZone r) → r.size ≤ length image → map_and_root image (OneZone r) ≡ Ok found
    → fits_kind image (OneZone r) ≡ true

-- Movable identifiers may move.
abbrev pub CarryLaw : Type 0
CarryLaw = (image other : List ℕ) (kind : Kind) (r : DiscRecord) (v : Opened) (m m' : Map) (f : ℕ → ℕ) → IsNewKind kind r
    → OpensAs image kind v → v.layout ≡ Layout.New m → Carries m m' (objects_of v.listings) image other f → StaysBy kind image v m' other

-- A movable identifier may move into holes.
abbrev pub MoveLaw : Type 0
MoveLaw = (image other : List ℕ) (kind : Kind) (r : DiscRecord) (v : Opened) (m m' : Map) (id : ℕ) → IsNewKind kind r
    → OpensAs image kind v → v.layout ≡ Layout.New m → MovesOne m m' (objects_of v.listings) id image other → StaysBy kind image v m' other

-- Runs and holes that touch may become one, and may be cut.
abbrev pub MergeLaw : Type 0
MergeLaw = (image other : List ℕ) (kind : Kind) (r : DiscRecord) (v : Opened) (m m' : Map) → IsNewKind kind r
    → OpensAs image kind v → v.layout ≡ Layout.New m → MovesNone m m' (objects_of v.listings) image other → StaysBy kind image v m' other

-- ---- steps, and one after another

-- With its own map what is opened is itself, and of two maps the later counts.
pub record WithMapLaw : Type 0 where
  pub own : (image : List ℕ) (kind : Kind) (r : DiscRecord) (v : Opened) (m : Map) → IsNewKind kind r → OpensAs image kind v → v.layout ≡ Layout.New m → with_map m v ≡ v
  pub again : (m m' : Map) (v : Opened) → with_map m' (with_map m v) ≡ with_map m' v

-- what was copied into holes lets the map m' be committed
pub record CanMove (m m' : Map) (objects : List Object) (id : ℕ) (image : List ℕ) : Type 0 where
  pub geometry_stays : m'.geometry ≡ m.geometry
  pub record_stays : map_record (sector_of m' 0) ≡ map_record (sector_of m 0)
  pub is_map : IsMap m'
  pub movable : is_movable objects id ≡ true
  pub others : (k : ℕ) → (k ≡ id → ⊥) → id_runs m' k ≡ id_runs m k
  pub carried : Carried m.geometry.sector image image (hole_sectors (Layout.New m)) (id_sectors m id) (id_sectors m' id)

-- a map that may be committed, since no sector moves
pub record CanMerge (m m' : Map) (objects : List Object) : Type 0 where
  pub geometry_stays : m'.geometry ≡ m.geometry
  pub record_stays : map_record (sector_of m' 0) ≡ map_record (sector_of m 0)
  pub is_map : IsMap m'
  pub fixed : (k : ℕ) → is_movable objects k ≡ false → id_runs m' k ≡ id_runs m k
  pub sectors : (k : ℕ) → id_sectors m' k ≡ id_sectors m k

-- a map that may be committed
abbrev pub CanCommit : Map → Map → List Object → List ℕ → Type 0
CanCommit m m' objects image = ((id : ℕ) × CanMove m m' objects id image) ⊎ CanMerge m m' objects

-- Each image that a crash inside a commit may leave, and the one after it, has the tree whole, by the old map or the new one.
abbrev pub CommitLaw : Type 0
CommitLaw = (image other : List ℕ) (kind : Kind) (r : DiscRecord) (v : Opened) (m m' : Map) → IsNewKind kind r
    → OpensAs image kind v → v.layout ≡ Layout.New m → CanCommit m m' (objects_of v.listings) image → CommitLeaves m.geometry image m.zones m'.zones other
    → (Chooses m.geometry m.zones other → StaysBy kind image v m other) × (Chooses m.geometry m'.zones other → StaysBy kind image v m' other)

-- what is written into holes
abbrev pub HoleStepLaw : Type 0
HoleStepLaw = (image other : List ℕ) (kind : Kind) (r : DiscRecord) (v : Opened) (m : Map) → IsNewKind kind r
    → OpensAs image kind v → v.layout ≡ Layout.New m → length other ≡ length image → SameOutsideHoles m.geometry.sector (Layout.New m) image other
    → StaysBy kind image v m other

-- one step after others
abbrev pub ThenLaw : Type 0
ThenLaw = (first second third : List ℕ) (kind : Kind) (r : DiscRecord) (v : Opened) (m₀ m m' : Map) → IsNewKind kind r
    → OpensAs first kind v → v.layout ≡ Layout.New m₀ → StaysBy kind first v m second → StaysBy kind second (with_map m v) m' third → StaysBy kind first v m' third

-- so the tree is whole
abbrev pub WholeLaw : Type 0
WholeLaw = (image other : List ℕ) (kind : Kind) (v : Opened) (m' : Map) → StaysBy kind image v m' other → StaysWhole kind image v other

-- A disc of one zone with sector 3 in identifier 2 doesn't come to look like one with a boot block, if it stays whole.
abbrev pub LooksLaw : Type 0
LooksLaw = (image other : List ℕ) (r : DiscRecord) (v : Opened) (m : Map) → OpensAs image (OneZone r) v → v.layout ≡ Layout.New m
    → is_among (id_sectors m 2) 3 ≡ true → StaysWhole (OneZone r) image v other → length other ≡ length image
    → looks_earlier other (OneZone r) ≡ looks_earlier image (OneZone r)

-- As each kind of one geometry an image has one map, and says the same.
abbrev pub SameMapLaw : Type 0
SameMapLaw = (image : List ℕ) (kind other : Kind) (r s : DiscRecord) (v w : Opened) (m n : Map) → IsNewKind kind r → IsNewKind other s → OpensAs image kind v → OpensAs image other w
    → v.layout ≡ Layout.New m → w.layout ≡ Layout.New n → n.geometry ≡ m.geometry → (n ≡ m) × (w.listings ≡ v.listings)

-- From one image to another the tree is whole, as each kind whose map has this geometry: what each crash and each exit keeps.
-- (An image may open as another kind too, with other bytes as its map; that isn't kept.)
abbrev pub KeepsObjects : Geometry → List ℕ → List ℕ → Type 0
KeepsObjects g image other = (kind : Kind) (r : DiscRecord) (v : Opened) (m : Map) → IsNewKind kind r → OpensAs image kind v → v.layout ≡ Layout.New m
    → m.geometry ≡ g → (m' : Map) × StaysBy kind image v m' other

-- It holds of an image and itself, and of the first and the last of three images; what is written into holes keeps it, and so
-- does each image inside a commit of a map that may be committed.
pub record KeepsObjectsLaw : Type 0 where
  pub same : (g : Geometry) (image : List ℕ) → KeepsObjects g image image
  pub after : (g : Geometry) (first second third : List ℕ) → KeepsObjects g first second → KeepsObjects g second third → KeepsObjects g first third
  pub hole : (image other : List ℕ) (kind : Kind) (r : DiscRecord) (v : Opened) (m : Map) → IsNewKind kind r → OpensAs image kind v → v.layout ≡ Layout.New m
      → length other ≡ length image → SameOutsideHoles m.geometry.sector (Layout.New m) image other → KeepsObjects m.geometry image other
  pub commit : (image other : List ℕ) (kind : Kind) (r : DiscRecord) (v : Opened) (m m' : Map) → IsNewKind kind r → OpensAs image kind v → v.layout ≡ Layout.New m
      → CanCommit m m' (objects_of v.listings) image → CommitLeaves m.geometry image m.zones m'.zones other → KeepsObjects m.geometry image other

-- ---- sectors that are carried, piece by piece

-- how sectors that are carried are put together
pub record CarriedLaw : Type 0 where
  -- what isn't moved has its bytes,
  pub stay : (size : ℕ) (image other holes xs : List ℕ) → ((s : ℕ) → is_among xs s ≡ true → sector_at size other s ≡ sector_at size image s)
      → Carried size image other holes xs xs
  -- what lies after comes after,
  pub both : (size : ℕ) (image other holes old new old' new' : List ℕ) → Carried size image other holes old new → length old ≡ length new
      → Carried size image other holes old' new' → Carried size image other holes (old ++ old') (new ++ new')
  -- a piece of a run moves into a hole, and all sectors move into one.
  pub piece : (size : ℕ) (image other holes : List ℕ) (from to n : ℕ) → ((i : ℕ) → i < n → sector_at size other (to + i) ≡ sector_at size image (from + i))
      → ((i : ℕ) → i < n → is_among holes (to + i) ≡ true) → Carried size image other holes (range_with_len from n) (range_with_len to n)
  pub onto : (size : ℕ) (image other holes old : List ℕ) (to n : ℕ) → length old ≤ n
      → ((i : ℕ) → i < length old → sector_at size other (to + i) ≡ sector_at size image (slice_index old i))
      → ((i : ℕ) → i < length old → is_among holes (to + i) ≡ true) → Carried size image other holes old (range_with_len to n)
