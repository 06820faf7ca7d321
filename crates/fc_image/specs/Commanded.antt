-- Edits of objects as commands ask for them give the tree of the model.
use Rattle.std.specs.Prelude.{◌≡◌, ◌<◌, ℕ, ◌*◌, ◌/◌, ◌%◌, ◌+◌, true, false, List, [], ◌∷◌, ◌++◌, length, drop, replicate, IsPermutation, if◌then◌else◌}
use Rattle.std.specs.Option.{option_map_or}
use Rattle.fc_names.specs.Names.{Path, folded_path, is_same_path}
use Rattle.fc_model.specs.Tree.{last_name, is_prefix}
use Rattle.fc_model.specs.Command.{Command}
use Rattle.fc_model.specs.Answer.{changed}
use Rattle.fc_image.specs.Layout.{Layout}
use Rattle.fc_image.specs.Walk.{Object, Listing, is_directory_object, object_bytes}
use Rattle.fc_image.specs.Objects.{objects_of, object_at, tree_of}
use Rattle.fc_image.specs.TreeEdits.{IsObjectEdit, IsMove, tree_entries}
use Rattle.fc_image.specs.Sound.{AreSound}

-- ---- single objects

-- The object keeps path, name, words and attributes, and a file its bytes.
pub record IsKept (image image' : List ℕ) (layout layout' : Layout) (o o' : Object) : Type 0 where
  pub path : o'.path ≡ o.path
  pub name : o'.entry.name ≡ o.entry.name
  pub attrs : o'.entry.attrs ≡ o.entry.attrs
  pub load : o'.entry.load ≡ o.entry.load
  pub exec : o'.entry.exec ≡ o.entry.exec
  pub bytes : is_directory_object o ≡ false → object_bytes image' layout' o' ≡ object_bytes image layout o

-- the new path of what stood at a path, after a move from one path to another
abbrev pub moved_path : Path → Path → Path → Path
moved_path from to path = if is_prefix (folded_path from) (folded_path path) then to ++ drop (length from) path else path

-- the new name
abbrev pub moved_name : Path → Path → Path → List ℕ → List ℕ
moved_name from to path name = if is_same_path from path then last_name to else name

-- The object has moved with its path, and keeps all else.
pub record IsMoved (from to : Path) (image image' : List ℕ) (layout layout' : Layout) (o o' : Object) : Type 0 where
  pub path : o'.path ≡ moved_path from to o.path
  pub name : o'.entry.name ≡ moved_name from to o.path o.entry.name
  pub attrs : o'.entry.attrs ≡ o.entry.attrs
  pub load : o'.entry.load ≡ o.entry.load
  pub exec : o'.entry.exec ≡ o.entry.exec
  pub bytes : is_directory_object o ≡ false → object_bytes image' layout' o' ≡ object_bytes image layout o

-- R holds of each object of one list and its counterpart in the other.
abbrev pub Each : (Object → Object → Type 0) → List Object → List Object → Type 0
Each R [] [] = Unit {0}
Each R (o ∷ objects) [] = ⊥
Each R [] (o' ∷ objects') = ⊥
Each R (o ∷ objects) (o' ∷ objects') = R o o' × Each R objects objects'

-- Each of them stands at the path.
abbrev pub AreAt : Path → List Object → Type 0
AreAt path [] = Unit {0}
AreAt path (o ∷ objects) = (is_same_path path o.path ≡ true) × AreAt path objects

-- the file that `save` or `create` makes at the path, with the name and attributes of what stood there
pub record IsFileMade (image' : List ℕ) (layout' : Layout) (listings : List Listing) (path : Path) (load exec : ℕ) (bytes : List ℕ) (o : Object) : Type 0 where
  pub at_path : is_same_path path o.path ≡ true
  pub name : o.entry.name ≡ option_map_or (λ p. p.entry.name) (object_at listings path) (last_name path)
  pub attrs : o.entry.attrs ≡ option_map_or (λ p. p.entry.attrs) (object_at listings path) 3
  pub load_word : o.entry.load ≡ load
  pub exec_word : o.entry.exec ≡ exec
  pub file : is_directory_object o ≡ false
  pub content : object_bytes image' layout' o ≡ bytes

-- the directory that `cdir` makes at the path
pub record IsDirectoryMade (path : Path) (o : Object) : Type 0 where
  pub at_path : is_same_path path o.path ≡ true
  pub name : o.entry.name ≡ last_name path
  pub attrs : o.entry.attrs ≡ 8
  pub load : o.entry.load ≡ 0
  pub exec : o.entry.exec ≡ 0

-- the object at the path, with new attributes and words
pub record IsReworded (image image' : List ℕ) (layout layout' : Layout) (path : Path) (attrs load exec : ℕ) (o o' : Object) : Type 0 where
  pub was_at : is_same_path path o.path ≡ true
  pub at_path : is_same_path path o'.path ≡ true
  pub name : o'.entry.name ≡ o.entry.name
  pub attrs_now : o'.entry.attrs ≡ attrs
  pub load_now : o'.entry.load ≡ load
  pub exec_now : o'.entry.exec ≡ exec
  pub kind : is_directory_object o' ≡ is_directory_object o
  pub bytes : is_directory_object o ≡ false → object_bytes image' layout' o' ≡ object_bytes image layout o

-- an object after `set` of the path
abbrev pub set_object : Path → ℕ → ℕ → ℕ → Object → Object
set_object path load exec access o =
    if is_same_path path o.path then record o { entry = record o.entry { load = load; exec = exec; attrs = o.entry.attrs / 8 * 8 + access } } else o

-- an object after `mark` of the path
abbrev pub mark_object : Path → ℕ → Object → Object
mark_object path attrs o =
    if is_same_path path o.path then record o { entry = record o.entry { attrs = attrs / 16 * 16 + 8 * (o.entry.attrs / 8 % 2) + attrs % 8 } } else o

-- from facts of single objects to edits of the tree
pub record ObjectsLaw : Type 0 where
  pub kept : (image image' : List ℕ) (layout layout' : Layout) (objects objects' : List Object) → Each (IsKept image image' layout layout') objects objects'
      → tree_entries image' layout' objects' ≡ tree_entries image layout objects
  pub moved : (from to : Path) (image image' : List ℕ) (layout layout' : Layout) (listings listings' : List Listing) (objects objects' : List Object)
      → AreSound layout listings → AreSound layout' listings'
      → IsPermutation (objects_of listings) objects → IsPermutation (objects_of listings') objects' → Each (IsMoved from to image image' layout layout') objects objects'
      → IsMove image image' layout layout' listings listings' from to
  -- neither command turns a file into a directory, or a directory into a file
  pub set_kind : (path : Path) (load exec access : ℕ) (o : Object) → access < 8 → is_directory_object (set_object path load exec access o) ≡ is_directory_object o
  pub mark_kind : (path : Path) (attrs : ℕ) (o : Object) → is_directory_object (mark_object path attrs o) ≡ is_directory_object o

-- After a command's edit of the objects the image has the tree that the model gives.
pub record CommandLaw : Type 0 where
  pub save : (image image' : List ℕ) (layout layout' : Layout) (listings listings' : List Listing) (path : Path) (load exec : ℕ) (bytes : List ℕ) (gone : List Object) (o : Object)
      → IsObjectEdit image image' layout layout' listings listings' gone (o ∷ []) → AreAt path gone → IsFileMade image' layout' listings path load exec bytes o
      → tree_of image' layout' listings' ≡ changed (tree_of image layout listings) (Command.Save path load exec bytes)
  pub create : (image image' : List ℕ) (layout layout' : Layout) (listings listings' : List Listing) (path : Path) (load exec len : ℕ) (gone : List Object) (o : Object)
      → IsObjectEdit image image' layout layout' listings listings' gone (o ∷ []) → AreAt path gone → IsFileMade image' layout' listings path load exec (replicate len 0) o
      → tree_of image' layout' listings' ≡ changed (tree_of image layout listings) (Command.Create path load exec len)
  pub cdir : (image image' : List ℕ) (layout layout' : Layout) (listings listings' : List Listing) (path : Path) (o : Object)
      → IsObjectEdit image image' layout layout' listings listings' [] (o ∷ []) → IsDirectoryMade path o
      → tree_of image' layout' listings' ≡ changed (tree_of image layout listings) (Command.Cdir path)
  pub delete : (image image' : List ℕ) (layout layout' : Layout) (listings listings' : List Listing) (path : Path) (o : Object)
      → IsObjectEdit image image' layout layout' listings listings' (o ∷ []) [] → is_same_path path o.path ≡ true
      → tree_of image' layout' listings' ≡ changed (tree_of image layout listings) (Command.Delete path)
  pub set : (image image' : List ℕ) (layout layout' : Layout) (listings listings' : List Listing) (path : Path) (load exec access : ℕ) (o o' : Object)
      → IsObjectEdit image image' layout layout' listings listings' (o ∷ []) (o' ∷ [])
      → IsReworded image image' layout layout' path (o.entry.attrs / 8 * 8 + access) load exec o o'
      → tree_of image' layout' listings' ≡ changed (tree_of image layout listings) (Command.Set path load exec access)
  pub mark : (image image' : List ℕ) (layout layout' : Layout) (listings listings' : List Listing) (path : Path) (attrs : ℕ) (o o' : Object)
      → IsObjectEdit image image' layout layout' listings listings' (o ∷ []) (o' ∷ [])
      → IsReworded image image' layout layout' path (attrs / 16 * 16 + 8 * (o.entry.attrs / 8 % 2) + attrs % 8) o.entry.load o.entry.exec o o'
      → tree_of image' layout' listings' ≡ changed (tree_of image layout listings) (Command.Mark path attrs)
  -- Objects move by the paths as the directories spell them. The command may spell them in other cases, except the new name.
  pub rename : (image image' : List ℕ) (layout layout' : Layout) (listings listings' : List Listing) (from to from' to' : Path)
      → IsMove image image' layout layout' listings listings' from' to'
      → is_same_path from from' ≡ true → is_same_path to to' ≡ true → last_name to ≡ last_name to'
      → tree_of image' layout' listings' ≡ changed (tree_of image layout listings) (Command.Rename from to)
