-- The walk over the directories of an image, the root first, the others in the order in which they are found.
use Rattle.std.specs.Prelude.{ℕ, zero, suc, ◌+◌, Bool, List, [], ◌∷◌, ◌++◌, filter, if◌then◌else◌, Option, Some, None, Result, Ok, Err}
use Rattle.fc_names.specs.declared.name.NameForm.{NameForm}
use Rattle.fc_names.specs.Names.{Path, is_directory}
use Rattle.fc_dirs.specs.declared.Entry.{Entry}
use Rattle.fc_dirs.specs.declared.DirFault.{DirFault}
use Rattle.fc_dirs.specs.Directory.{Directory, directory_of, directory_size, entries_of}
use Rattle.fc_image.specs.declared.ImageFault.{ImageFault}
use Rattle.fc_image.specs.declared.ImageFault.TheVariants as faults
use Rattle.fc_image.specs.Layout.{Layout, sector_bytes, disc_sectors, dir_form, sectors_at, bytes_in, is_apart}

infixl 10 ◌>>=◌
-- what comes after a value, or the first fault
abbrev pub ◌>>=◌ : {A B : Type 0} → Result A ImageFault → (A → Result B ImageFault) → Result B ImageFault
(Ok x) >>= f = f x
(Err fault) >>= f = Err fault

-- an object: where it stands in the tree, its entry, and the sectors that it takes
pub record Object : Type 0 where
  pub path : Path
  pub entry : Entry
  pub sectors : List ℕ

-- a directory, what it says, and the objects that it holds, in stored order
pub record Listing : Type 0 where
  pub object : Object
  pub content : Directory
  pub children : List Object

-- the bytes of an object of this entry
abbrev pub object_size : NameForm → Entry → ℕ
object_size form e = if is_directory e.attrs then directory_size form e.len else e.len

-- an object's bytes
abbrev pub object_bytes : List ℕ → Layout → Object → List ℕ
object_bytes image layout o = bytes_in (sector_bytes layout) image o.sectors (object_size (dir_form layout) o.entry)

-- an object of whose sectors none is taken
abbrev pub placed_on : List ℕ → Path → Entry → Option (List ℕ) → Result Object ImageFault
placed_on taken path e None = Err (faults.Place path)
placed_on taken path e (Some sectors) =
    if is_apart sectors taken then Ok (record { path = path; entry = e; sectors = sectors }) else Err (faults.Overlap path)

-- the object of an entry, if its address leads to sectors that aren't taken
abbrev pub object_of : Layout → List ℕ → Path → Entry → Result Object ImageFault
object_of layout taken path e = placed_on taken path e (sectors_at layout e.address (object_size (dir_form layout) e))

-- the objects of the entries of a directory, and then the sectors that are taken; each is judged after those before it
unfoldable pub children_of : Layout → List ℕ → Path → List Entry → Result (List Object × List ℕ) ImageFault
children_of layout taken path [] = Ok ([], taken)
children_of layout taken path (e ∷ entries) = do
  first ← object_of layout taken (path ++ e.name ∷ []) e
  others ← children_of layout (first.sectors ++ taken) path entries
  Ok (first ∷ others.0, others.1)

-- what a directory says, by whatever tells it
abbrev pub Reader : Type 0
Reader = Object → Result Directory DirFault

-- the bytes of an image tell it
abbrev pub reader_of : List ℕ → Layout → Reader
reader_of image layout o = directory_of (dir_form layout) (object_bytes image layout o)

-- the fault of a directory at its path
abbrev pub at_path : Path → Result Directory DirFault → Result Directory ImageFault
at_path path (Ok dir) = Ok dir
at_path path (Err fault) = Err (faults.Directory path fault)

-- The object is a directory.
abbrev pub is_directory_object : Object → Bool
is_directory_object o = is_directory o.entry.attrs

-- The directories that wait are read in turn, and those that they hold wait after the others. Since each takes sectors
-- that are not taken yet, `fuel` doesn't run out if it is above the number of sectors; if it did, it would be a fault.
unfoldable pub listings_from : Reader → Layout → ℕ → List ℕ → List Object → Result (List Listing) ImageFault
listings_from read layout zero taken [] = Ok []
listings_from read layout zero taken (o ∷ waiting) = Err (faults.Overlap o.path)
listings_from read layout (suc fuel) taken [] = Ok []
listings_from read layout (suc fuel) taken (o ∷ waiting) = do
  content ← at_path o.path (read o)
  children ← children_of layout taken o.path (entries_of content)
  others ← listings_from read layout fuel children.1 (waiting ++ filter is_directory_object children.0)
  Ok (record { object = o; content = content; children = children.0 } ∷ others)

-- the entry that the root would have
abbrev pub root_entry : ℕ → ℕ → Entry
root_entry address size = record { name = 36 ∷ []; load = 0; exec = 0; len = size; address = address; attrs = 8; last = 0 }

-- the listings of all directories, the root's first, if some sectors are reserved
unfoldable pub walk : Reader → Layout → List ℕ → ℕ → ℕ → Result (List Listing) ImageFault
walk read layout reserved address size = do
  root ← object_of layout reserved [] (root_entry address (directory_size (dir_form layout) size))
  listings_from read layout (disc_sectors layout + 1) (root.sectors ++ reserved) (root ∷ [])
