-- An edit of the parts of an image with a new map by which identifiers move, and what is written for it.
use Rattle.std.specs.Prelude.{◌≡◌, ◌⊎◌, ◌<◌, ℕ, true, false, List, [], ◌++◌, length, map, Ok, Contains, IsPermutation}
use Rattle.fc_names.specs.Names.{Path, is_same_path}
use Rattle.fc_record.specs.declared.DiscRecord.{DiscRecord}
use Rattle.fc_record.specs.Kinds.{map_record}
use Rattle.fc_newmap.specs.Map.{sector_of}
use Rattle.fc_newmap.specs.Copies.{Chooses}
use Rattle.fc_dirs.specs.Directory.{directory_size}
use Rattle.fc_image.specs.Layout.{Layout, dir_form, is_among}
use Rattle.fc_image.specs.Walk.{Listing, Object, is_directory_object, object_bytes, object_size, reader_of, root_entry}
use Rattle.fc_image.specs.Objects.{objects_of}
use Rattle.fc_image.specs.Opening.{agreement, difference}
use Rattle.fc_image.specs.Stays.{IsNewKind, OpensAs}
use Rattle.fc_image.specs.TreeEdits.{IsMove, IsObjectEdit}
use Rattle.fc_image.specs.Commanded.{moved_name, moved_path}
use Rattle.fc_edits.specs.Edit.{Amended, Edit, TopStays, objects}
use Rattle.fc_edits.specs.Places.{Stays}
use Rattle.fc_outcomes.specs.Done.{IsDone}
use Rattle.fc_safelaws.specs.Free.{ChangesFree, IsFreeSector, MappedImage}
use Rattle.fc_safelaws.specs.Relaid.{AreCopied}
use Rattle.fc_safeedits.specs.Relocation.{Relocation, is_moved, relocated, turned_in}
use Rattle.fc_safeedits.specs.SafeParts.{SafeParts}

-- ---- the record of the disc

-- The root stays, and the map's record with it.
pub record RootKept (x : Relocation) : Type 0 where
  pub record_stays : map_record (sector_of x.m' 0) ≡ map_record (sector_of x.m 0)
  pub stays : TopStays x.edit x.top

-- The root has another place or length, which the map's record has too and which agrees with that of the kind. It says something else.
pub record RootAnew (x : Relocation) (r : DiscRecord) : Type 0 where
  pub own : DiscRecord
  pub agreed : agreement r (map_record (sector_of x.m' 0)) (difference r (map_record (sector_of x.m' 0))) ≡ Ok own
  pub entry : (x.edit.turn x.top).entry ≡ root_entry own.root (directory_size (dir_form (Layout.New x.m')) own.root_size)
  pub says : Contains (map (λ (a : Amended). a.number) x.edit.amended) 0

-- ---- what is written

-- It is no directory that says something else.
abbrev pub IsUnamended : Edit → Object → Type 0
IsUnamended e o = (a : Amended) → Contains e.amended a → a.was.object ≡ o → ⊥

-- These sectors are written, in which nothing lay. Directories that say something else say it where they lie then, and so do those that
-- come. What stays is copied if it is laid anew, and so is what moves or gets another entry, unless it says something else.
pub record IsSafeWritten (x : Relocation) (written was image : List ℕ) : Type 0 where
  pub changes : ChangesFree x.m.geometry written was image
  pub free : (s : ℕ) → is_among written s ≡ true → IsFreeSector x.m (objects_of x.listings) s
  pub says : (a : Amended) → Contains x.edit.amended a → reader_of image (Layout.New x.m') (turned_in x a.was.object) ≡ Ok a.content
  pub into_say : (d : ℕ × Listing) → Contains x.edit.into d → reader_of image (Layout.New x.m') d.1.object ≡ Ok d.1.content
  pub copied : (o : Object) → Stays x.nodes x.listings x.edit o → is_moved x.moves o ≡ true → IsUnamended x.edit o → AreCopied x.m.geometry.sector was image o.sectors (turned_in x o).sectors
  pub copied_too : (o : Object) → Contains (objects x.edit.moving) o → is_moved x.moves (x.edit.turn o) ≡ true → IsUnamended x.edit o
      → AreCopied x.m.geometry.sector was image o.sectors (turned_in x o).sectors

-- An object with another entry, or in another directory, lies where it lay, unless it says something else.
pub record KeepsBody (x : Relocation) (o : Object) : Type 0 where
  pub sectors : (x.edit.turn o).sectors ≡ o.sectors
  pub size : object_size (dir_form (Layout.New x.m)) (x.edit.turn o).entry ≡ object_size (dir_form (Layout.New x.m)) o.entry

-- Or its bytes are copied to its new sectors, in no identifier that moves.
pub record CopiesBody (x : Relocation) (was image : List ℕ) (o : Object) : Type 0 where
  pub elsewhere : is_moved x.moves (x.edit.turn o) ≡ false
  pub size : object_size (dir_form (Layout.New x.m)) (x.edit.turn o).entry ≡ object_size (dir_form (Layout.New x.m)) o.entry
  pub copied : AreCopied x.m.geometry.sector was image o.sectors (x.edit.turn o).sectors

-- The edit of an image, and another image, which has what is written for it. Its map that counts is m'.
pub record SafeImage : Type 0 where
  pub parts : SafeParts
  pub r : DiscRecord
  pub image : List ℕ
  pub image' : List ℕ
  pub written : List ℕ
  pub new_kind : IsNewKind parts.kind r
  pub opens : OpensAs image parts.kind (record { kind = parts.kind; layout = Layout.New parts.move.m; listings = parts.move.listings })
  pub bodies : (o : Object) → Contains (objects parts.move.edit.moving) o → IsUnamended parts.move.edit o → KeepsBody parts.move o ⊎ CopiesBody parts.move image image' o
  pub is_written : IsSafeWritten parts.move written image image'
  pub chosen : Chooses parts.move.m.geometry parts.move.m'.zones image'
  pub root_is : RootKept parts.move ⊎ RootAnew parts.move r

-- the image before, as it opens
abbrev pub before_image : SafeImage → MappedImage
before_image y = record { kind = y.parts.kind; r = y.r; m = y.parts.move.m; listings = y.parts.move.listings; image = y.image; new_kind = y.new_kind; opens = y.opens }

-- ---- what it is to the tree

-- All but its place and its bytes.
pub record KeepsNode (o o' : Object) : Type 0 where
  pub path : o'.path ≡ o.path
  pub name : o'.entry.name ≡ o.entry.name
  pub attrs : o'.entry.attrs ≡ o.entry.attrs
  pub load : o'.entry.load ≡ o.entry.load
  pub exec : o'.entry.exec ≡ o.entry.exec

-- No path changes. Of the objects that move or get another entry `changing` change their nodes, and `steady` don't.
pub record KeepsAllPaths (x : Relocation) (changing : List Object) : Type 0 where
  pub paths : (o : Object) → Stays x.nodes x.listings x.edit o → (x.edit.turn o).path ≡ o.path
  pub steady : List Object
  pub moving : IsPermutation (objects x.edit.moving) (changing ++ steady)
  pub kept : (o : Object) → Contains steady o → KeepsNode o (x.edit.turn o)

-- It has moved with its path.
pub record MovesNode (from to : Path) (o o' : Object) : Type 0 where
  pub path : o'.path ≡ moved_path from to o.path
  pub name : o'.entry.name ≡ moved_name from to o.path o.entry.name
  pub attrs : o'.entry.attrs ≡ o.entry.attrs
  pub load : o'.entry.load ≡ o.entry.load
  pub exec : o'.entry.exec ≡ o.entry.exec

-- All at or below one path moves to another, and nothing goes or comes.
pub record MovesAllPaths (x : Relocation) (from to : Path) : Type 0 where
  pub no_root : 0 < length from
  pub none_goes : x.edit.gone ≡ []
  pub none_comes : x.edit.come ≡ []
  pub paths : (o : Object) → Stays x.nodes x.listings x.edit o → (x.edit.turn o).path ≡ moved_path from to o.path
  pub others : (o : Object) → Stays x.nodes x.listings x.edit o → is_same_path from o.path ≡ false
  pub moving : (o : Object) → Contains (objects x.edit.moving) o → MovesNode from to o (x.edit.turn o)

-- ---- the law

pub record SafeImageLaw : Type 0 where
  -- A file that doesn't go has its bytes: one that stays, and one that moves or gets another entry.
  pub staying_bytes : (y : SafeImage) (o : Object) → Stays y.parts.move.nodes y.parts.move.listings y.parts.move.edit o → is_directory_object o ≡ false
      → object_bytes y.image' (Layout.New y.parts.move.m') (turned_in y.parts.move o) ≡ object_bytes y.image (Layout.New y.parts.move.m) o
  pub moving_bytes : (y : SafeImage) (o : Object) → Contains (objects y.parts.move.edit.moving) o → is_directory_object o ≡ false
      → object_bytes y.image' (Layout.New y.parts.move.m') (turned_in y.parts.move o) ≡ object_bytes y.image (Layout.New y.parts.move.m) o
  -- The other image opens by the new map, and these are its parts: if no path changes, and if all at or below one moves.
  pub kept : (y : SafeImage) (changing : List Object) → KeepsAllPaths y.parts.move changing
      → (d : IsDone y.parts.kind y.image' (Layout.New y.parts.move.m') y.parts.move.nodes' y.parts.owners' (relocated y.parts.move))
      × IsObjectEdit y.image y.image' (Layout.New y.parts.move.m) (Layout.New y.parts.move.m') y.parts.move.listings d.found (changing ++ objects y.parts.move.edit.gone)
      (map (turned_in y.parts.move) changing ++ objects y.parts.move.edit.come)
  pub moved : (y : SafeImage) (from to : Path) → MovesAllPaths y.parts.move from to
      → (d : IsDone y.parts.kind y.image' (Layout.New y.parts.move.m') y.parts.move.nodes' y.parts.owners' (relocated y.parts.move))
      × IsMove y.image y.image' (Layout.New y.parts.move.m) (Layout.New y.parts.move.m') y.parts.move.listings d.found from to
