-- Edits of directories on discs with new maps: when the new image opens, and with which objects.
use Rattle.std.specs.Prelude.{◌≡◌, ◌<◌, ◌≤◌, ◌⊎◌, ℕ, ◌+◌, true, false, List, [], ◌∷◌, ◌++◌, length, map, Ok, Contains, IsPermutation}
use Rattle.fc_names.specs.Names.{Path}
use Rattle.fc_record.specs.declared.DiscRecord.{DiscRecord}
use Rattle.fc_record.specs.declared.Kind.{Kind}
use Rattle.fc_record.specs.Kinds.{map_record}
use Rattle.fc_newmap.specs.Map.{Map, IsMap, sector_of, id_runs, is_used}
use Rattle.fc_newmap.specs.Copies.{Chooses}
use Rattle.fc_image.specs.Layout.{Layout, dir_form, id_of}
use Rattle.fc_image.specs.Walk.{Object, Listing, reader_of, object_size, is_directory_object}
use Rattle.fc_image.specs.Objects.{first_object, objects_of, is_movable}
use Rattle.fc_image.specs.Opening.{Opened, agreement, difference, reserved_in, boot_place}
use Rattle.fc_image.specs.Stays.{IsNewKind, OpensAs, HasSectorsOf}
use Rattle.fc_image.specs.Edits.{IsAt, IsListing, Apart, IsApartFrom, IsRoot, StayListed}
use Rattle.fc_image.specs.Order.{listed, held, directories}
use Rattle.fc_image.specs.TreeEdits.{IsObjectEdit, IsMove}
use Rattle.fc_image.specs.Commanded.{IsKept, IsMoved}
use Rattle.fc_image.specs.EditedWalk.{IsRelisting, moved_object}

-- The object has no sectors, or its identifier keeps its runs.
abbrev pub KeepsPlace : Map → Map → Object → Type 0
KeepsPlace m m' o = (object_size (dir_form (Layout.New m)) o.entry ≡ 0) ⊎ (id_runs m' (id_of o.entry.address) ≡ id_runs m (id_of o.entry.address))

-- an object keeps its sectors, if its identifier keeps its runs
abbrev pub PlacesLaw : Type 0
PlacesLaw = (m m' : Map) (o : Object) → m'.geometry ≡ m.geometry → KeepsPlace m m' o → IsAt (Layout.New m) o → IsAt (Layout.New m') o

-- The old image opens with the map m and this root object. The new one has a map m' of the same geometry and the same boot block,
-- and the record in m' agrees with the kind's.
pub record IsMapEdit (kind : Kind) (r own : DiscRecord) (image image' : List ℕ) (v : Opened) (m m' : Map) (root : Object) : Type 0 where
  pub new_kind : IsNewKind kind r
  pub opens : OpensAs image kind v
  pub layout : v.layout ≡ Layout.New m
  pub first : first_object v.listings ≡ root ∷ []
  pub geometry_stays : m'.geometry ≡ m.geometry
  pub agreed : agreement r (map_record (sector_of m' 0)) (difference r (map_record (sector_of m' 0))) ≡ Ok own
  pub is_map : IsMap m'
  pub chosen_map : Chooses m.geometry m'.zones image'
  pub length_stays : length image' ≡ length image
  pub boot_stays : HasSectorsOf m.geometry.sector (boot_place kind m.geometry.sector) image image'

-- Objects go, come and change, and the directories say so. Directories may change their addresses, the root too.
pub record IsNewMapEdit (kind : Kind) (r own : DiscRecord) (image image' : List ℕ) (v : Opened) (m m' : Map) (root : Object) (g : Object → Object)
    (listings' : List Listing) (gone come kept : List Object) : Type 0 where
  pub maps : IsMapEdit kind r own image image' v m m' root
  pub relisted : IsRelisting g v.listings listings' gone come kept
  pub few : length listings' ≤ length v.listings + 1
  pub say : StayListed (reader_of image' (Layout.New m')) (Layout.New m') listings'
  pub root_now : IsRoot (Layout.New m') own.root own.root_size (g root)
  pub apart : Apart (reserved_in kind (Layout.New m)) (come ++ map g (root ∷ kept))
  -- A used identifier that isn't movable keeps its runs, and doesn't become movable.
  pub fixed : (k : ℕ) → is_movable (objects_of v.listings) k ≡ false → is_used m k ≡ true → (id_runs m' k ≡ id_runs m k) × (is_movable (come ++ map g (root ∷ kept)) k ≡ false)

-- Each of these objects lies apart from the sectors, from those after it in the list, and from the others.
abbrev pub EachApartFrom : List ℕ → List Object → List Object → Type 0
EachApartFrom taken others [] = Unit {0}
EachApartFrom taken others (o ∷ objects) = IsApartFrom taken (objects ++ others) o × EachApartFrom taken others objects

-- An edit of one directory l, in which objects go and come; a directory among them is empty. `root` is the root's object, `out` and
-- `into` are the listings of directories that go and come, `rest` all other listings, and `kids` the objects that stay in l.
pub record IsDirectoryEdit (kind : Kind) (r : DiscRecord) (image image' : List ℕ) (v : Opened) (m m' : Map) (root : Object) (out into rest : List Listing) (l l' : Listing)
    (gone come kids : List Object) : Type 0 where
  pub own : DiscRecord
  pub maps : IsMapEdit kind r own image image' v m m' root
  pub record_stays : map_record (sector_of m' 0) ≡ map_record (sector_of m 0)
  -- before
  pub found : IsPermutation v.listings (out ++ l ∷ rest)
  pub holds : IsPermutation l.children (gone ++ kids)
  pub out_gone : listed out ≡ directories gone
  pub out_empty : held out ≡ []
  -- now
  pub object : l'.object ≡ l.object
  pub says : IsListing (reader_of image' (Layout.New m')) (Layout.New m') l'
  pub holds_now : IsPermutation l'.children (come ++ kids)
  pub into_say : StayListed (reader_of image' (Layout.New m')) (Layout.New m') into
  pub into_come : listed into ≡ directories come
  pub into_empty : held into ≡ []
  pub into_few : length into ≤ 1
  pub come_apart : EachApartFrom (reserved_in kind (Layout.New m)) (root ∷ (kids ++ held rest)) come
  -- all that stays keeps its place, and the other directories and all files their bytes
  pub places : (o : Object) → Contains (root ∷ (kids ++ held rest)) o → KeepsPlace m m' o
  pub dirs : (k : Listing) → Contains rest k → HasSectorsOf m.geometry.sector k.object.sectors image image'
  pub files : (o : Object) → Contains (kids ++ held rest) o → is_directory_object o ≡ false → HasSectorsOf m.geometry.sector o.sectors image image'
  -- A used identifier that isn't movable keeps its runs, and doesn't become movable.
  pub fixed : (k : ℕ) → is_movable (objects_of v.listings) k ≡ false → is_used m k ≡ true
      → (id_runs m' k ≡ id_runs m k) × (is_movable (come ++ root ∷ (kids ++ held rest)) k ≡ false)

-- Everything at or below one path moves to another. `kept` are all objects in directories, and `listings'` the listings afterwards.
pub record IsMovingEdit (kind : Kind) (r : DiscRecord) (image image' : List ℕ) (v : Opened) (m m' : Map) (root : Object) (listings' : List Listing) (kept : List Object) (from to : Path) : Type 0 where
  pub own : DiscRecord
  pub maps : IsMapEdit kind r own image image' v m m' root
  pub record_stays : map_record (sector_of m' 0) ≡ map_record (sector_of m 0)
  pub no_root : 0 < length from
  pub relisted : IsRelisting (moved_object from to) v.listings listings' [] [] kept
  pub say : StayListed (reader_of image' (Layout.New m')) (Layout.New m') listings'
  pub places : (o : Object) → Contains (root ∷ kept) o → KeepsPlace m m' o
  pub files : (o : Object) → Contains kept o → is_directory_object o ≡ false → HasSectorsOf m.geometry.sector o.sectors image image'
  pub fixed : (k : ℕ) → is_movable (objects_of v.listings) k ≡ false → is_used m k ≡ true → id_runs m' k ≡ id_runs m k

-- the new image opens with these listings, in some order
pub record OpensEdited (kind : Kind) (image' : List ℕ) (layout' : Layout) (listings' : List Listing) : Type 0 where
  pub found : List Listing
  pub opens : OpensAs image' kind (record { kind = kind; layout = layout'; listings = found })
  pub order : IsPermutation listings' found

pub record MapEditLaw : Type 0 where
  -- if all objects that stay keep their nodes, except some that are named
  pub any : (kind : Kind) (r own : DiscRecord) (image image' : List ℕ) (v : Opened) (m m' : Map) (root : Object) (g : Object → Object) (listings' : List Listing)
      (gone come kept changing others : List Object) → IsNewMapEdit kind r own image image' v m m' root g listings' gone come kept
      → IsPermutation kept (changing ++ others) → ((o : Object) → Contains others o → IsKept image image' (Layout.New m) (Layout.New m') o (g o))
      → (w : OpensEdited kind image' (Layout.New m') listings') × IsObjectEdit image image' v.layout (Layout.New m') v.listings w.found (changing ++ gone) (map g changing ++ come)
  -- if objects at or below a path move
  pub any_moved : (kind : Kind) (r own : DiscRecord) (image image' : List ℕ) (v : Opened) (m m' : Map) (root : Object) (g : Object → Object) (listings' : List Listing) (kept : List Object) (from to : Path)
      → IsNewMapEdit kind r own image image' v m m' root g listings' [] [] kept → 0 < length from
      → ((o : Object) → Contains kept o → IsMoved from to image image' (Layout.New m) (Layout.New m') o (g o))
      → (w : OpensEdited kind image' (Layout.New m') listings') × IsMove image image' v.layout (Layout.New m') v.listings w.found from to
  -- if the entries of one directory are edited, and no directory changes its address
  pub edited : (kind : Kind) (r : DiscRecord) (image image' : List ℕ) (v : Opened) (m m' : Map) (root : Object) (out into rest : List Listing) (l l' : Listing) (gone come kids : List Object)
      → IsDirectoryEdit kind r image image' v m m' root out into rest l l' gone come kids
      → (w : OpensEdited kind image' (Layout.New m') (into ++ l' ∷ rest)) × IsObjectEdit image image' v.layout (Layout.New m') v.listings w.found gone come
  -- if objects at or below a path move, and none changes its address
  pub moved : (kind : Kind) (r : DiscRecord) (image image' : List ℕ) (v : Opened) (m m' : Map) (root : Object) (listings' : List Listing) (kept : List Object) (from to : Path)
      → IsMovingEdit kind r image image' v m m' root listings' kept from to
      → (w : OpensEdited kind image' (Layout.New m') listings') × IsMove image image' v.layout (Layout.New m') v.listings w.found from to
