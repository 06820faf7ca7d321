-- The walk after an edit: some objects go, some come, and each that stays may change its path, entry and place.
use Rattle.std.specs.Prelude.{◌≡◌, ◌<◌, ◌≤◌, ℕ, ◌+◌, true, false, List, [], ◌∷◌, ◌++◌, length, map, insert, remove, slice_get, slice_set, Some, Ok, Contains, IsPermutation}
use Rattle.fc_record.specs.declared.DiscRecord.{DiscRecord}
use Rattle.fc_record.specs.declared.Kind.{Kind}
use Rattle.fc_newmap.specs.Map.{Map}
use Rattle.fc_names.specs.Names.{Path, is_same_path}
use Rattle.fc_dirs.specs.declared.Entry.{Entry}
use Rattle.fc_dirs.specs.Directory.{Directory, entries_of}
use Rattle.fc_image.specs.Layout.{Layout, disc_sectors, hole_sectors, is_among, is_apart}
use Rattle.fc_image.specs.Walk.{Object, Listing, Reader, reader_of, is_directory_object, walk}
use Rattle.fc_image.specs.Objects.{objects_of}
use Rattle.fc_image.specs.Opening.{Opened, reserved_in}
use Rattle.fc_image.specs.Stays.{IsNewKind, OpensAs}
use Rattle.fc_image.specs.Edits.{IsAt, AreChildren, IsListing, Apart, IsApartFrom, IsRoot, StayListed}
use Rattle.fc_image.specs.Order.{listed, held, directories, AreListings}
use Rattle.fc_image.specs.TreeEdits.{IsObjectEdit, IsMove}
use Rattle.fc_image.specs.Commanded.{IsKept, IsMoved, moved_path, moved_name}

-- An edit of the listings of a walk. Empty directories may go and come. Of the objects in the other directories some go and some
-- come, and g maps each one that stays to what it is after the edit, its path included.
pub record IsRelisting (g : Object → Object) (listings listings' : List Listing) (gone come kept : List Object) : Type 0 where
  pub out : List Listing
  pub stay : List Listing
  pub into : List Listing
  pub stay' : List Listing
  pub had : IsPermutation listings (out ++ stay)
  pub has : IsPermutation listings' (into ++ stay')
  pub same : listed stay' ≡ map g (listed stay)
  pub held_before : IsPermutation (held stay) (gone ++ kept)
  pub held_after : IsPermutation (held stay') (come ++ map g kept)
  pub out_gone : listed out ≡ directories gone
  pub into_come : listed into ≡ directories come
  pub out_empty : held out ≡ []
  pub into_empty : held into ≡ []
  pub kinds : (o : Object) → is_directory_object (g o) ≡ is_directory_object o

-- One reader's walk found the old listings. For the other reader and layout, the directories say the new listings, g maps the old
-- root to the new one, all objects lie apart, and the directories are at most as many as the sectors and one.
pub record IsWalkEdit (read read' : Reader) (layout layout' : Layout) (reserved reserved' : List ℕ) (address address' size size' : ℕ) (g : Object → Object)
    (listings listings' : List Listing) (gone come kept : List Object) : Type 0 where
  pub walked : walk read layout reserved address size ≡ Ok listings
  pub relisted : IsRelisting g listings listings' gone come kept
  pub say : StayListed read' layout' listings'
  pub root : (o : Object) → IsRoot layout address size o → IsRoot layout' address' size' (g o)
  pub apart : (o : Object) → IsRoot layout address size o → Apart reserved' (come ++ map g (o ∷ kept))
  pub room : length listings' ≤ disc_sectors layout' + 1

-- the same, if both readers read an image
abbrev pub IsImageEdit : List ℕ → List ℕ → Layout → Layout → List ℕ → List ℕ → ℕ → ℕ → ℕ → ℕ → (Object → Object) → List Listing → List Listing → List Object → List Object
    → List Object → Type 0
IsImageEdit image image' layout layout' = IsWalkEdit (reader_of image layout) (reader_of image' layout') layout layout'

-- The second walk finds the new listings in some order. The objects of both walks are the gone, the new, the root and the kept ones.
pub record IsWalkedAgain (read' : Reader) (layout layout' : Layout) (reserved' : List ℕ) (address address' size size' : ℕ) (g : Object → Object)
    (listings listings' : List Listing) (gone come kept : List Object) : Type 0 where
  pub root : Object
  pub is_root : IsRoot layout address size root
  pub found : List Listing
  pub walked : walk read' layout' reserved' address' size' ≡ Ok found
  pub order : IsPermutation listings' found
  pub before : IsPermutation (objects_of listings) (gone ++ root ∷ kept)
  pub after : IsPermutation (objects_of found) (come ++ map g (root ∷ kept))

-- an edit gives such a walk, and what that means for the tree
pub record EditedWalkLaw : Type 0 where
  pub again : (read read' : Reader) (layout layout' : Layout) (reserved reserved' : List ℕ) (address address' size size' : ℕ) (g : Object → Object)
      (listings listings' : List Listing) (gone come kept : List Object)
      → IsWalkEdit read read' layout layout' reserved reserved' address address' size size' g listings listings' gone come kept
      → IsWalkedAgain read' layout layout' reserved' address address' size size' g listings listings' gone come kept
  -- if all objects that stay keep their nodes, except some that are named
  pub edited : (image image' : List ℕ) (layout layout' : Layout) (reserved reserved' : List ℕ) (address address' size size' : ℕ) (g : Object → Object)
      (listings listings' : List Listing) (gone come kept changing others : List Object)
      → IsImageEdit image image' layout layout' reserved reserved' address address' size size' g listings listings' gone come kept
      → (w : IsWalkedAgain (reader_of image' layout') layout layout' reserved' address address' size size' g listings listings' gone come kept)
      → IsPermutation kept (changing ++ others) → ((o : Object) → Contains others o → IsKept image image' layout layout' o (g o))
      → IsObjectEdit image image' layout layout' listings w.found (changing ++ gone) (map g changing ++ come)
  -- if objects at or below a path other than the root's move
  pub moved : (image image' : List ℕ) (layout layout' : Layout) (reserved reserved' : List ℕ) (address address' size size' : ℕ) (g : Object → Object)
      (listings listings' : List Listing) (kept : List Object) (from to : Path)
      → IsImageEdit image image' layout layout' reserved reserved' address address' size size' g listings listings' [] [] kept
      → (w : IsWalkedAgain (reader_of image' layout') layout layout' reserved' address address' size size' g listings listings' [] [] kept)
      → 0 < length from → ((o : Object) → Contains kept o → IsMoved from to image image' layout layout' o (g o))
      → IsMove image image' layout layout' listings w.found from to

-- ---- which listings are edited

-- g maps each directory, and each object in it, to the new one
abbrev pub AreListedBy : (Object → Object) → List Listing → List Listing → Type 0
AreListedBy g [] [] = Unit {0}
AreListedBy g (l ∷ listings) [] = ⊥
AreListedBy g [] (l' ∷ listings') = ⊥
AreListedBy g (l ∷ listings) (l' ∷ listings') = (l'.object ≡ g l.object) × (l'.children ≡ map g l.children) × AreListedBy g listings listings'

-- the object after a move from one path to another, if it stood at or below the first
abbrev pub moved_object : Path → Path → Object → Object
moved_object from to o = record o { path = moved_path from to o.path; entry = record o.entry { name = moved_name from to o.path o.entry.name } }

-- edits of listings, by the directories in which objects go and come
pub record RelistingLaw : Type 0 where
  -- Objects go and come in one directory l, and g maps all others. If none goes or comes, this is a rename with all contents, or
  -- other words or another address for one object.
  pub one : (g : Object → Object) (listings out rest into rest' : List Listing) (l l' : Listing) (gone come kids : List Object)
      → ((o : Object) → is_directory_object (g o) ≡ is_directory_object o)
      → IsPermutation listings (out ++ l ∷ rest) → l'.object ≡ g l.object → IsPermutation l.children (gone ++ kids) → IsPermutation l'.children (come ++ map g kids)
      → AreListedBy g rest rest' → listed out ≡ directories gone → held out ≡ [] → listed into ≡ directories come → held into ≡ []
      → IsRelisting g listings (into ++ l' ∷ rest') gone come (kids ++ held rest)
  -- An object o goes from directory k into directory l.
  pub across : (g : Object → Object) (listings rest rest' : List Listing) (k k' l l' : Listing) (o : Object) (kids : List Object)
      → ((p : Object) → is_directory_object (g p) ≡ is_directory_object p)
      → IsPermutation listings (k ∷ l ∷ rest) → k'.object ≡ g k.object → l'.object ≡ g l.object
      → IsPermutation k.children (o ∷ kids) → IsPermutation k'.children (map g kids) → IsPermutation l'.children (g o ∷ map g l.children) → AreListedBy g rest rest'
      → IsRelisting g listings (k' ∷ l' ∷ rest') [] [] ((o ∷ kids) ++ (l.children ++ held rest))
  -- A directory that doesn't hold the moving object lists the moved objects, if its entries are the same and the objects are at their
  -- places. The directory itself may have moved.
  pub says : (from to : Path) (read read' : Reader) (layout layout' : Layout) (l : Listing) (content : Directory)
      → IsListing read layout l → read' (moved_object from to l.object) ≡ Ok content → entries_of content ≡ entries_of l.content
      → ((o : Object) → Contains l.children o → IsAt layout' o) → ((o : Object) → Contains l.children o → is_same_path from o.path ≡ false)
      → IsListing read' layout' (record { object = moved_object from to l.object; content = content; children = map (moved_object from to) l.children })

-- picking listings out of a walk
pub record ListingsLaw : Type 0 where
  -- one listing, or two, and the rest
  pub one : (listings : List Listing) (l : Listing) → Contains listings l → (rest : List Listing) × IsPermutation listings (l ∷ rest)
  pub two : (listings : List Listing) (k l : Listing) → Contains listings k → Contains listings l → (k ≡ l → ⊥) → (rest : List Listing) × IsPermutation listings (k ∷ l ∷ rest)
  -- The root has a listing, and so has each directory that a listed one holds.
  pub root : (read : Reader) (layout : Layout) (o : Object) (listings : List Listing) → AreListings read layout o listings → (l : Listing) × Contains listings l × (l.object ≡ o)
  pub directory : (read : Reader) (layout : Layout) (root o : Object) (listings : List Listing) → AreListings read layout root listings
      → Contains (held listings) o → is_directory_object o ≡ true → (l : Listing) × Contains listings l × (l.object ≡ o)

-- the objects of a directory after an edit of its entries
pub record EntriesLaw : Type 0 where
  -- Entry i is that of object i.
  pub found : (layout : Layout) (path : Path) (entries : List Entry) (objects : List Object) (i : ℕ) (e : Entry) → AreChildren layout path entries objects
      → slice_get entries i ≡ Some e → (o : Object) × (slice_get objects i ≡ Some o) × (o.path ≡ path ++ e.name ∷ []) × (o.entry ≡ e) × IsAt layout o
  -- They are the same for another layout, if they lie at their places there.
  pub placed : (layout layout' : Layout) (path : Path) (entries : List Entry) (objects : List Object) → AreChildren layout path entries objects
      → ((o : Object) → Contains objects o → IsAt layout' o) → AreChildren layout' path entries objects
  -- an entry comes
  pub added : (layout : Layout) (path : Path) (entries : List Entry) (objects : List Object) (i : ℕ) (o : Object) → AreChildren layout path entries objects
      → o.path ≡ path ++ o.entry.name ∷ [] → IsAt layout o
      → AreChildren layout path (insert entries i o.entry) (insert objects i o) × IsPermutation (insert objects i o) (o ∷ objects)
  -- an entry goes
  pub removed : (layout : Layout) (path : Path) (entries : List Entry) (objects : List Object) (i : ℕ) (o : Object) → AreChildren layout path entries objects
      → slice_get objects i ≡ Some o → AreChildren layout path (remove entries i) (remove objects i) × IsPermutation objects (o ∷ remove objects i)
  -- an entry is replaced, if the others lie at their places by the other layout
  pub changed : (layout layout' : Layout) (path : Path) (entries : List Entry) (objects : List Object) (i : ℕ) (p o : Object) → AreChildren layout path entries objects
      → slice_get objects i ≡ Some p → ((q : Object) → Contains (remove objects i) q → IsAt layout' q) → o.path ≡ path ++ o.entry.name ∷ [] → IsAt layout' o
      → AreChildren layout' path (slice_set entries i o.entry) (slice_set objects i o)
      × IsPermutation objects (p ∷ remove objects i) × IsPermutation (slice_set objects i o) (o ∷ remove objects i)

-- objects that lie apart after an edit
pub record EditedApartLaw : Type 0 where
  -- Without those that go the others lie apart, also after a change that keeps their sectors. A new one has to lie apart from them.
  pub kept : (taken : List ℕ) (g : Object → Object) (gone kept : List Object) → ((o : Object) → (g o).sectors ≡ o.sectors) → Apart taken (gone ++ kept) → Apart taken (map g kept)
  pub come : (taken : List ℕ) (kept : List Object) (o : Object) → Apart taken kept → IsApartFrom taken kept o → Apart taken (o ∷ kept)
  -- it does, if its sectors are apart from those of each
  pub from : (taken : List ℕ) (objects : List Object) (o : Object) → is_apart o.sectors taken ≡ true → ((p : Object) → Contains objects p → is_apart o.sectors p.sectors ≡ true)
      → IsApartFrom taken objects o
  -- and sectors in holes are apart from all objects of an opened image
  pub holes : (image : List ℕ) (kind : Kind) (r : DiscRecord) (v : Opened) (m : Map) (objects : List Object) (o : Object) → IsNewKind kind r → OpensAs image kind v
      → v.layout ≡ Layout.New m → ((s : ℕ) → is_among o.sectors s ≡ true → is_among (hole_sectors (Layout.New m)) s ≡ true)
      → ((p : Object) → Contains objects p → Contains (objects_of v.listings) p) → IsApartFrom (reserved_in kind (Layout.New m)) objects o
