-- `save`, `create` and `cdir`, without growth, from what is written to what they promise.
use Rattle.std.specs.Prelude.{◌≡◌, ℕ, true, List, [], ◌∷◌, ◌++◌, length, slice_get, slice_set, Option, Some, None, Contains}
use Rattle.std.specs.Option.{option_map_or}
use Rattle.fc_names.specs.Names.{Path, is_same_path}
use Rattle.fc_record.specs.declared.DiscRecord.{DiscRecord}
use Rattle.fc_model.specs.Command.{Command}
use Rattle.fc_model.specs.Tree.{holder, last_name}
use Rattle.fc_dirs.specs.Directory.{entries_of}
use Rattle.fc_dirs.specs.Entries.{with_entry}
use Rattle.fc_image.specs.Layout.{Layout, dir_form}
use Rattle.fc_image.specs.Report.{holder_address}
use Rattle.fc_image.specs.Objects.{object_at, objects_of}
use Rattle.fc_image.specs.Walk.{Listing, Object, object_size}
use Rattle.fc_image.specs.Opening.{Opened}
use Rattle.fc_image.specs.Stays.{IsNewKind, OpensAs}
use Rattle.fc_image.specs.effects.Short.{growth_in, new_dir_size}
use Rattle.fc_image.specs.effects.Steady.{AreWritten, IsRewritten, new_directory}
use Rattle.fc_changes.specs.Changed.{IsFileAt, IsInNewSpace, MakesFile}
use Rattle.fc_changes.specs.Owed.{IsMapAfter}
use Rattle.fc_laws.specs.agree.Agreed.{parts_with}
use Rattle.fc_laws.specs.takeover.Places.{MayBeWritten}
use Rattle.fc_changes.specs.old.Changed.{IsFileAt as IsOldFileAt, IsFirstFitted}
use Rattle.fc_changes.specs.old.Owed.{IsMapAfter as IsOldMapAfter, holding}
use Rattle.fc_laws.specs.old.agree.Laws.{parts_with as old_parts_with}
use Rattle.fc_laws.specs.old.takeover.Places.{AreSpared, MayBeWritten as OldMayBeWritten}
use Rattle.fc_edits.specs.Addition.{Addition, NewAddition, OldAddition, holes_with_it, over_it}
use Rattle.fc_outcomes.specs.NewImage.{Outcome}
use Rattle.fc_outcomes.specs.Puts.{ArePutOut}

-- A new entry stands in its place by name. One in the place of another keeps its name, attributes and last byte.
abbrev pub HasEntry : Option Object → Path → Addition → Type 0
HasEntry None path a = (entries_of a.content ≡ with_entry a.o.entry (entries_of a.l.content)) × (a.o.entry.name ≡ last_name path) × (a.o.entry.last ≡ 0)
HasEntry (Some p) path a =
    (i : ℕ) × (slice_get a.l.children i ≡ Some p) × (entries_of a.content ≡ slice_set (entries_of a.l.content) i a.o.entry) × (a.o.entry.name ≡ p.entry.name) × (a.o.entry.attrs ≡ p.entry.attrs)
    × (a.o.entry.last ≡ p.entry.last)

-- The object is at the path, and so was what it replaces, if it replaces any. Its directory is rewritten with its entry, and these are all its bytes; `stored` are the object's.
pub record Joins (c : Command) (path : Path) (layout : Layout) (listings : List Listing) (a : Addition) (bytes stored : List ℕ) : Type 0 where
  pub path_is : is_same_path path a.o.path ≡ true
  pub stood : object_at listings path ≡ over_it a
  pub entry : HasEntry (over_it a) path a
  pub says : IsRewritten c a.l.object.path (holder_address listings a.l.object.path) a.l.content a.content
  pub written : AreWritten bytes a.content
  pub long : length bytes ≡ object_size (dir_form layout) a.l.object.entry
  pub stored_long : length stored ≡ object_size (dir_form layout) a.o.entry
  pub own : (d : Listing) → Contains a.into d → AreWritten stored d.content

-- The object is the file that the command makes.
pub record IsItsFile (c : Command) (path : Path) (load exec : ℕ) (a : Addition) (stored : List ℕ) : Type 0 where
  pub makes : MakesFile c path load exec stored
  pub alone : a.into ≡ []
  pub attrs : a.o.entry.attrs ≡ option_map_or (λ (p : Object). p.entry.attrs) (over_it a) 3
  pub load_word : a.o.entry.load ≡ load
  pub exec_word : a.o.entry.exec ≡ exec

-- It is a new empty directory.
pub record IsItsDirectory (path : Path) (layout : Layout) (a : Addition) (d : Listing) : Type 0 where
  pub listed : a.into ≡ d ∷ []
  pub new : a.over ≡ []
  pub attrs : a.o.entry.attrs ≡ 8
  pub load : a.o.entry.load ≡ 0
  pub exec : a.o.entry.exec ≡ 0
  pub len : a.o.entry.len ≡ new_dir_size (dir_form layout)
  pub says : d.content ≡ new_directory (dir_form layout) a.l.object.entry.address (last_name path)

-- the image as it opens before
abbrev pub new_view : NewAddition → Opened
new_view x = record { kind = x.kind; layout = Layout.New x.m; listings = x.listings }

abbrev pub old_view : OldAddition → Opened
old_view x = record { kind = x.kind; layout = Layout.Old x.space; listings = x.listings }

-- On a new map: the sectors of directory and object have their bytes, both copies of the map are the new map, and no directory grows.
pub record NewAdditionWritten (x : NewAddition) (c : Command) (path : Path) (bytes stored image image' : List ℕ) : Type 0 where
  pub r : DiscRecord
  pub new_kind : IsNewKind x.kind r
  pub opens : OpensAs image x.kind (new_view x)
  pub no_growth : growth_in (new_view x) c ≡ None
  pub joins : Joins c path (Layout.New x.m) x.listings x.c bytes stored
  pub out : ArePutOut (Layout.New x.m) (record { sectors = x.c.l.object.sectors; bytes = bytes } ∷ (record { sectors = x.c.o.sectors; bytes = stored } ∷ [])) image image'
  pub after : IsMapAfter x.m x.m' image'

-- On an old map: so they have, and the holes are those after the object has taken its space, and what it replaces has given its own.
pub record OldAdditionWritten (x : OldAddition) (c : Command) (path : Path) (bytes stored image image' : List ℕ) : Type 0 where
  pub opens : OpensAs image x.kind (old_view x)
  pub joins : Joins c path (Layout.Old x.space) x.listings x.c bytes stored
  pub out : ArePutOut (Layout.Old x.space) (record { sectors = x.c.l.object.sectors; bytes = bytes } ∷ (record { sectors = x.c.o.sectors; bytes = stored } ∷ [])) image image'
  pub after : IsOldMapAfter x.space (holes_with_it x.space x.c) image image'

-- The command does what it promises, and the new image has the parts after it.
abbrev pub NewAdded : NewAddition → Command → List ℕ → List ℕ → Type 0
NewAdded x c image image' = Outcome x.kind image image' (new_view x) c (parts_with x.m' x.nodes' x.owners')

abbrev pub OldAdded : OldAddition → Command → List ℕ → List ℕ → Type 0
OldAdded x c image image' =
    Outcome x.kind image image' (old_view x) c (old_parts_with (holding x.space (holes_with_it x.space x.c)) x.nodes' x.owners')

pub record AdditionLaw : Type 0 where
  pub new_file : (x : NewAddition) (c : Command) (path : Path) (load exec : ℕ) (bytes stored image image' : List ℕ) → NewAdditionWritten x c path bytes stored image image' → IsItsFile c path load exec x.c stored
      → IsFileAt x.m (objects_of x.listings) (holder path) (length stored) x.id x.parts x.c.o → NewAdded x c image image'
  pub new_directory : (x : NewAddition) (path : Path) (d : Listing) (bytes stored image image' : List ℕ) → NewAdditionWritten x (Command.Cdir path) path bytes stored image image'
      → IsItsDirectory path (Layout.New x.m) x.c d → IsInNewSpace x.m (new_dir_size (dir_form (Layout.New x.m))) 0 x.id x.parts x.c.o → NewAdded x (Command.Cdir path) image image'
  pub old_file : (x : OldAddition) (c : Command) (path : Path) (load exec : ℕ) (bytes stored image image' : List ℕ) → OldAdditionWritten x c path bytes stored image image' → IsItsFile c path load exec x.c stored
      → IsOldFileAt x.space (length stored) x.c.o → OldAdded x c image image'
  pub old_directory : (x : OldAddition) (path : Path) (d : Listing) (bytes stored image image' : List ℕ) → OldAdditionWritten x (Command.Cdir path) path bytes stored image image'
      → IsItsDirectory path (Layout.Old x.space) x.c d → IsFirstFitted x.space (new_dir_size (dir_form (Layout.Old x.space))) x.c.o → OldAdded x (Command.Cdir path) image image'
  -- At every exit the sectors of directory and object may be written beside the map: they are none of another object, nor of lost space.
  pub new_may_file : (x : NewAddition) (c : Command) (path : Path) (load exec : ℕ) (bytes stored image : List ℕ) → OpensAs image x.kind (new_view x) → Joins c path (Layout.New x.m) x.listings x.c bytes stored
      → IsItsFile c path load exec x.c stored → IsFileAt x.m (objects_of x.listings) (holder path) (length stored) x.id x.parts x.c.o
      → MayBeWritten x.kind (new_view x) x.m c (x.c.l.object.sectors ++ x.c.o.sectors)
  pub new_may_directory : (x : NewAddition) (path : Path) (d : Listing) (bytes stored image : List ℕ) → OpensAs image x.kind (new_view x)
      → Joins (Command.Cdir path) path (Layout.New x.m) x.listings x.c bytes stored → IsItsDirectory path (Layout.New x.m) x.c d
      → IsInNewSpace x.m (new_dir_size (dir_form (Layout.New x.m))) 0 x.id x.parts x.c.o → MayBeWritten x.kind (new_view x) x.m (Command.Cdir path) (x.c.l.object.sectors ++ x.c.o.sectors)
  pub old_may_file : (x : OldAddition) (c : Command) (path : Path) (load exec : ℕ) (bytes stored image : List ℕ) → OpensAs image x.kind (old_view x) → Joins c path (Layout.Old x.space) x.listings x.c bytes stored
      → IsItsFile c path load exec x.c stored → IsOldFileAt x.space (length stored) x.c.o → OldMayBeWritten (old_view x) x.space c (x.c.l.object.sectors ++ x.c.o.sectors)
      × AreSpared (old_view x) x.space c (x.c.l.object.sectors ++ x.c.o.sectors)
  pub old_may_directory : (x : OldAddition) (path : Path) (d : Listing) (bytes stored image : List ℕ) → OpensAs image x.kind (old_view x)
      → Joins (Command.Cdir path) path (Layout.Old x.space) x.listings x.c bytes stored → IsItsDirectory path (Layout.Old x.space) x.c d
      → IsFirstFitted x.space (new_dir_size (dir_form (Layout.Old x.space))) x.c.o → OldMayBeWritten (old_view x) x.space (Command.Cdir path) (x.c.l.object.sectors ++ x.c.o.sectors)
      × AreSpared (old_view x) x.space (Command.Cdir path) (x.c.l.object.sectors ++ x.c.o.sectors)
