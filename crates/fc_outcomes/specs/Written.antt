-- What has been written for an edit.
use Rattle.std.specs.Prelude.{◌≡◌, ◌<◌, ◌⊎◌, ℕ, true, false, List, [], ◌++◌, length, map, Contains, Some, Ok, IsPermutation}
use Rattle.fc_device.specs.Sectors.{sector_at}
use Rattle.fc_names.specs.Names.{Path, is_same_path}
use Rattle.fc_record.specs.declared.DiscRecord.{DiscRecord}
use Rattle.fc_record.specs.declared.Kind.{Kind}
use Rattle.fc_record.specs.Kinds.{fits_kind, map_record}
use Rattle.fc_oldmap.specs.OldMap.{OldMapContent}
use Rattle.fc_newmap.specs.Map.{Map, sector_of}
use Rattle.fc_newmap.specs.Copies.{Chooses}
use Rattle.fc_dirs.specs.Directory.{directory_size}
use Rattle.fc_image.specs.Layout.{Layout, dir_form, is_among, map_place, sector_bytes}
use Rattle.fc_image.specs.Walk.{Listing, Object, object_bytes, reader_of, root_entry}
use Rattle.fc_image.specs.Objects.{objects_of}
use Rattle.fc_image.specs.Opening.{agreement, boot_place, difference, map_and_root}
use Rattle.fc_image.specs.Stays.{HasSectorsOf}
use Rattle.fc_image.specs.Commanded.{IsKept, IsMoved, moved_path}
use Rattle.fc_tree.specs.Nodes.{number_of}
use Rattle.fc_laws.specs.nodes.Edits.{Nodes}
use Rattle.fc_edits.specs.Edit.{Amended, Edit, joining, leaving, numbers, objects}
use Rattle.fc_edits.specs.Places.{Stays}

-- ---- on the disc

-- The directories that say something else say it, those that come say theirs, and all else that stays keeps its bytes. A directory that
-- moves and says what it said is copied.
pub record IsEditWritten (image image' : List ℕ) (layout layout' : Layout) (nodes : Nodes) (listings : List Listing) (e : Edit) : Type 0 where
  pub sector : sector_bytes layout' ≡ sector_bytes layout
  pub length_stays : length image' ≡ length image
  pub says : (a : Amended) → Contains e.amended a → reader_of image' layout' (e.turn a.was.object) ≡ Ok a.content
  pub into_say : (d : ℕ × Listing) → Contains e.into d → reader_of image' layout' d.1.object ≡ Ok d.1.content
  pub stays : (o : Object) (s : Stays nodes listings e o) → (Contains (map (λ (a : Amended). a.number) e.amended) s.number → ⊥) → HasSectorsOf (sector_bytes layout) o.sectors image image'
  pub carried : (k : Listing) (n : ℕ) → Contains e.same k → number_of nodes k.object.path ≡ Some n → Contains (numbers (leaving e)) n
      → object_bytes image' layout' (e.turn k.object) ≡ object_bytes image layout k.object

-- The copy that counts is the new map, whose record agrees with the kind's and has the root's place.
pub record IsNewMapWritten (kind : Kind) (r : DiscRecord) (image image' : List ℕ) (m m' : Map) (listings : List Listing) (e : Edit) : Type 0 where
  pub own : DiscRecord
  pub agreed : agreement r (map_record (sector_of m' 0)) (difference r (map_record (sector_of m' 0))) ≡ Ok own
  pub chosen_map : Chooses m.geometry m'.zones image'
  pub boot_stays : HasSectorsOf m.geometry.sector (boot_place kind m.geometry.sector) image image'
  pub root_now : (o : Object) → Contains (objects_of listings) o → o.path ≡ [] → (e.turn o).entry ≡ root_entry own.root (directory_size (dir_form (Layout.New m')) own.root_size)

-- The image has the old map, of the same disc, and the root stays.
pub record IsOldMapWritten (kind : Kind) (image' : List ℕ) (space space' : OldMapContent) (listings : List Listing) (e : Edit) : Type 0 where
  pub sector_stays : space'.sector_units ≡ space.sector_units
  pub disc_stays : space'.disc_units ≡ space.disc_units
  pub address : ℕ
  pub found : map_and_root image' kind ≡ Ok (Layout.Old space', address, 0)
  pub fits : fits_kind image' kind ≡ true
  pub root_stays : (o : Object) → Contains (objects_of listings) o → o.path ≡ [] → e.turn o ≡ o

-- Besides the map only these sectors are written: those of directories that say something else, and of objects that join a directory.
pub record WritesForEdit (image image' : List ℕ) (layout : Layout) (e : Edit) (written : List ℕ) : Type 0 where
  pub writes : (s : ℕ) → is_among written s ≡ false → is_among (map_place layout) s ≡ false → sector_at (sector_bytes layout) image' s ≡ sector_at (sector_bytes layout) image s
  pub whose : (s : ℕ) → is_among written s ≡ true
      → ((a : Amended) × Contains e.amended a × (is_among (e.turn a.was.object).sectors s ≡ true)) ⊎ ((p : ℕ × Object) × Contains (joining e) p × (is_among p.1.sectors s ≡ true))

-- ---- what it is to the tree

-- No path changes. Of the objects that move or get another entry `changing` change their nodes, and `steady` don't.
pub record KeepsPaths (image image' : List ℕ) (layout layout' : Layout) (nodes : Nodes) (listings : List Listing) (e : Edit) (changing : List Object) : Type 0 where
  pub paths : (o : Object) → Stays nodes listings e o → (e.turn o).path ≡ o.path
  pub steady : List Object
  pub moving : IsPermutation (objects e.moving) (changing ++ steady)
  pub kept : (o : Object) → Contains steady o → IsKept image image' layout layout' o (e.turn o)

-- All at or below one path moves to another, and nothing goes or comes.
pub record MovesPaths (image image' : List ℕ) (layout layout' : Layout) (nodes : Nodes) (listings : List Listing) (e : Edit) (from to : Path) : Type 0 where
  pub no_root : 0 < length from
  pub none_goes : e.gone ≡ []
  pub none_comes : e.come ≡ []
  pub paths : (o : Object) → Stays nodes listings e o → (e.turn o).path ≡ moved_path from to o.path
  pub others : (o : Object) → Stays nodes listings e o → is_same_path from o.path ≡ false
  pub moving : (o : Object) → Contains (objects e.moving) o → IsMoved from to image image' layout layout' o (e.turn o)
