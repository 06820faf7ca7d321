-- What a walk is, apart from how it is made, and what directories say after an edit.
use Rattle.std.specs.Prelude.{◌≡◌, ◌≤◌, ℕ, ◌+◌, true, false, List, [], ◌∷◌, ◌++◌, length, map, filter, take, drop, Some, Ok, Contains}
use Rattle.fc_names.specs.Names.{Path, is_same_path}
use Rattle.fc_dirs.specs.declared.Entry.{Entry}
use Rattle.fc_dirs.specs.Directory.{entries_of, directory_size}
use Rattle.fc_image.specs.Layout.{Layout, sector_bytes, dir_form, disc_sectors, sectors_at, is_apart}
use Rattle.fc_image.specs.Walk.{Object, Listing, Reader, reader_of, object_size, is_directory_object, root_entry, walk}
use Rattle.fc_image.specs.Objects.{objects_of}
use Rattle.fc_image.specs.Opening.{Opened}
use Rattle.fc_image.specs.Stays.{OpensAs, HasSectorsOf}
use Rattle.fc_record.specs.declared.Kind.{Kind}

-- the object's sectors are those of its address
abbrev pub IsAt : Layout → Object → Type 0
IsAt layout o = sectors_at layout o.entry.address (object_size (dir_form layout) o.entry) ≡ Some o.sectors

-- the objects of a directory's entries, in order
abbrev pub AreChildren : Layout → Path → List Entry → List Object → Type 0
AreChildren layout path [] [] = Unit {0}
AreChildren layout path (e ∷ entries) [] = ⊥
AreChildren layout path [] (o ∷ objects) = ⊥
AreChildren layout path (e ∷ entries) (o ∷ objects) = (o.path ≡ path ++ e.name ∷ []) × (o.entry ≡ e) × IsAt layout o × AreChildren layout path entries objects

-- the directory says so
abbrev pub IsListing : Reader → Layout → Listing → Type 0
IsListing read layout l = (read l.object ≡ Ok l.content) × AreChildren layout l.object.path (entries_of l.content) l.children

-- the listings of the directories that wait, and of those that they hold
abbrev pub Follows : Reader → Layout → List Object → List Listing → Type 0
Follows read layout [] [] = Unit {0}
Follows read layout (o ∷ waiting) [] = ⊥
Follows read layout [] (l ∷ listings) = ⊥
Follows read layout (o ∷ waiting) (l ∷ listings) =
    (l.object ≡ o) × IsListing read layout l × Follows read layout (waiting ++ filter is_directory_object l.children) listings

-- each object is apart from what was taken before it
abbrev pub Apart : List ℕ → List Object → Type 0
Apart taken [] = Unit {0}
Apart taken (o ∷ objects) = (is_apart o.sectors taken ≡ true) × Apart (o.sectors ++ taken) objects

-- the root's object
pub record IsRoot (layout : Layout) (address size : ℕ) (root : Object) : Type 0 where
  pub path : root.path ≡ []
  pub entry : root.entry ≡ root_entry address (directory_size (dir_form layout) size)
  pub placed : IsAt layout root

-- The walk finds the listings that follow from the root, if all objects are apart and there are no more directories
-- than sectors and one; and it finds no others.
pub record WalkFormLaw : Type 0 where
  pub makes : (read : Reader) (layout : Layout) (reserved : List ℕ) (address size : ℕ) (root : Object) (listings : List Listing)
      → IsRoot layout address size root → Follows read layout (root ∷ []) listings → Apart reserved (objects_of listings)
      → length listings ≤ disc_sectors layout + 1 → walk read layout reserved address size ≡ Ok listings
  pub gives : (read : Reader) (layout : Layout) (reserved : List ℕ) (address size : ℕ) (listings : List Listing)
      → walk read layout reserved address size ≡ Ok listings
      → (root : Object) × IsRoot layout address size root × Follows read layout (root ∷ []) listings × Apart reserved (objects_of listings)

-- An opened disc, of whatever kind, has no more directories than sectors.
abbrev pub RoomLaw : Type 0
RoomLaw = (image : List ℕ) (kind : Kind) (v : Opened) → OpensAs image kind v → length v.listings ≤ disc_sectors v.layout

-- ---- edits

-- the second list has the listings of the first, of which each may say something else, but holds the same directories, each changed by g
abbrev pub AreEdited : Reader → Layout → (Object → Object) → List Listing → List Listing → Type 0
AreEdited read layout g [] [] = Unit {0}
AreEdited read layout g (l ∷ listings) [] = ⊥
AreEdited read layout g [] (k ∷ edited) = ⊥
AreEdited read layout g (l ∷ listings) (k ∷ edited) =
    (k.object ≡ g l.object) × IsListing read layout k × (filter is_directory_object k.children ≡ map g (filter is_directory_object l.children))
    × AreEdited read layout g listings edited

-- what follows from a list of waiting directories, after an edit
pub record EditLaw : Type 0 where
  -- Files come and go, entries and addresses change, and the directories stay.
  pub files : (read read' : Reader) (layout layout' : Layout) (g : Object → Object) (waiting : List Object) (listings edited : List Listing)
      → Follows read layout waiting listings → AreEdited read' layout' g listings edited → Follows read' layout' (map g waiting) edited
  -- A directory that holds no directory comes,
  pub dir_added : (read : Reader) (layout : Layout) (front rest : List Object) (listings : List Listing) (l : Listing)
      → Follows read layout (front ++ rest) listings → IsListing read layout l → filter is_directory_object l.children ≡ []
      → Follows read layout (front ++ l.object ∷ rest) (take (length front) listings ++ l ∷ drop (length front) listings)
  -- or goes, if it has one listing.
  pub dir_removed : (read : Reader) (layout : Layout) (front rest : List Object) (o : Object) (early late : List Listing) (l : Listing)
      → Follows read layout (front ++ o ∷ rest) (early ++ l ∷ late) → l.object ≡ o → filter is_directory_object l.children ≡ []
      → ((k : Listing) → Contains (early ++ late) k → k.object ≡ o → ⊥)
      → Follows read layout (front ++ rest) (early ++ late)

-- the object is apart from the sectors, and from each of the objects
abbrev pub IsApartFrom : List ℕ → List Object → Object → Type 0
IsApartFrom taken [] o = is_apart o.sectors taken ≡ true
IsApartFrom taken (p ∷ objects) o = (is_apart o.sectors p.sectors ≡ true) × IsApartFrom taken objects o

-- an object comes, or goes, anywhere among the others
pub record ApartLaw : Type 0 where
  pub added : (taken : List ℕ) (front rest : List Object) (o : Object) → Apart taken (front ++ rest) → IsApartFrom taken (front ++ rest) o → Apart taken (front ++ o ∷ rest)
  pub removed : (taken : List ℕ) (front rest : List Object) (o : Object) → Apart taken (front ++ o ∷ rest) → Apart taken (front ++ rest) × IsApartFrom taken (front ++ rest) o

-- ---- what directories say

-- each of these directories says what it said, by this reader and layout
abbrev pub StayListed : Reader → Layout → List Listing → Type 0
StayListed read layout [] = Unit {0}
StayListed read layout (l ∷ listings) = IsListing read layout l × StayListed read layout listings

-- ---- what an image says, and another one

-- what an image says, and what another one says
pub record StayLaw : Type 0 where
  -- each listing of a walk is one that its reader and layout have
  pub listed : (read : Reader) (layout : Layout) (reserved : List ℕ) (address size : ℕ) (listings : List Listing)
      → walk read layout reserved address size ≡ Ok listings → StayListed read layout listings
  -- Another image says the same by another layout, if the objects have their places and the directories their bytes.
  pub other : (image other : List ℕ) (layout layout' : Layout) (listings : List Listing) → dir_form layout' ≡ dir_form layout → sector_bytes layout' ≡ sector_bytes layout
      → StayListed (reader_of image layout) layout listings
      → ((l : Listing) → Contains listings l → HasSectorsOf (sector_bytes layout) l.object.sectors image other)
      → ((l : Listing) → Contains listings l → (o : Object) → Contains l.children o → IsAt layout' o)
      → StayListed (reader_of other layout') layout' listings

-- No two objects of an opened image have paths that fold to one.
abbrev pub PathsLaw : Type 0
PathsLaw = (image : List ℕ) (kind : Kind) (v : Opened) (front middle rest : List Object) (o p : Object) → OpensAs image kind v
    → objects_of v.listings ≡ front ++ o ∷ (middle ++ p ∷ rest) → is_same_path o.path p.path ≡ false
