-- What each command's calls leave, one directory written to its old place, and that the command then does what it promises.
use Rattle.std.specs.Prelude.{◌≡◌, ◌<◌, ◌⊎◌, ℕ, ◌+◌, ◌*◌, true, false, List, [], ◌∷◌, ◌++◌, length, replicate, slice_get, slice_set, if◌then◌else◌, Some, None, Contains, IsPermutation}
use Rattle.fc_names.specs.Names.{Path, folded_path, is_same_path}
use Rattle.fc_record.specs.declared.DiscRecord.{DiscRecord}
use Rattle.fc_record.specs.declared.Kind.{Kind}
use Rattle.fc_newmap.specs.Map.{Map, ZoneRun, bits_in, hole_runs, map_sectors}
use Rattle.fc_newmap.specs.Copies.{HoldsCopies}
use Rattle.fc_model.specs.Tree.{is_prefix, last_name}
use Rattle.fc_model.specs.Command.{Command}
use Rattle.fc_dirs.specs.Entries.{has_name, with_entry, without_entry}
use Rattle.fc_dirs.specs.Directory.{Directory, entries_of}
use Rattle.fc_image.specs.Layout.{Layout}
use Rattle.fc_image.specs.Walk.{Object, Listing, object_bytes, is_directory_object}
use Rattle.fc_image.specs.Opening.{Opened}
use Rattle.fc_image.specs.Stays.{HasSectorsOf}
use Rattle.fc_image.specs.effects.Sharing.{new_ids, slack, units}
use Rattle.fc_image.specs.effects.Short.{growth_in, is_copied}
use Rattle.fc_image.specs.effects.Placed.{IsPlan, file_low}
use Rattle.fc_image.specs.effects.Steady.{AreWritten, IsRewritten}
use Rattle.fc_changes.specs.Owed.{IsBefore, IsDirectoryWritten, IsWritten}

-- ---- set, mark

-- Entry i of directory l is that of g's object. The map stays as it is, and no sector of it is written.
pub record IsRewordChange (kind : Kind) (r : DiscRecord) (image image' : List ℕ) (v : Opened) (m : Map) (c : Command) (rest : List Listing) (l : Listing) (content : Directory)
    (i : ℕ) (o : Object) (g : Object → Object) : Type 0 where
  pub before : IsBefore kind r image v m
  -- `Volume::mount` or `repair`
  pub copies : HoldsCopies m.geometry m.zones image
  pub found : IsPermutation v.listings (l ∷ rest)
  pub at : slice_get l.children i ≡ Some o
  -- `change`
  pub entries : entries_of content ≡ slice_set (entries_of l.content) i (g o).entry
  pub directory : IsDirectoryWritten image' v m c l content
  pub written : IsWritten m l.object.sectors image image'
  pub map_stays : HasSectorsOf m.geometry.sector (map_sectors m.geometry) image image'

-- ---- where a new object lies

-- n bytes, some, in parts of holes that become the runs of a new identifier
pub record IsInNewSpace (m : Map) (n low id : ℕ) (parts : List ZoneRun) (o : Object) : Type 0 where
  pub some : 0 < n
  -- `Supply::plan`
  pub is_new : Contains (new_ids m) id
  pub plan : IsPlan m.geometry (hole_runs m) (units m.geometry n) parts
  pub address : o.entry.address ≡ 256 * id + low

-- n bytes of a file of this directory, in an identifier that another file has
pub record IsInSlack (m : Map) (objects : List Object) (dir : Path) (n : ℕ) (parts : List ZoneRun) (o : Object) : Type 0 where
  pub share : ℕ × ℕ
  -- `fc_placing::slack`
  pub found : slack m objects dir n ≡ Some share
  pub address : o.entry.address ≡ 256 * share.0 + share.1
  pub nothing : parts ≡ []

-- a file of no bytes
pub record IsNowhere (n : ℕ) (parts : List ZoneRun) (o : Object) : Type 0 where
  pub none : n ≡ 0
  pub address : o.entry.address ≡ 0
  pub nothing : parts ≡ []

-- a file in slack if there is some, else in new space, and of no bytes nowhere
abbrev pub IsFileAt : Map → List Object → Path → ℕ → ℕ → List ZoneRun → Object → Type 0
IsFileAt m objects dir n id parts o =
    IsInSlack m objects dir n parts o
    ⊎ (((slack m objects dir n ≡ None) × IsInNewSpace m n (file_low m.geometry (bits_in parts * m.geometry.bit_bytes) n) id parts o) ⊎ IsNowhere n parts o)

-- ---- save, create

-- the command makes a file of these bytes
abbrev pub MakesFile : Command → Path → ℕ → ℕ → List ℕ → Type 0
MakesFile c path load exec bytes =
    (c ≡ Command.Save path load exec bytes) ⊎ ((c ≡ Command.Create path load exec (length bytes)) × (bytes ≡ replicate (length bytes) 0))

-- ---- rename to another directory

-- Entry i of directory k is gone, and directory l has the object o under a new name. A directory o is rewritten, with its new holder
-- as its parent, and says `now`. The file isn't copied, and the map stays as it is.
pub record IsMoveChange (kind : Kind) (r : DiscRecord) (image image' : List ℕ) (v : Opened) (m : Map) (from to : Path) (rest : List Listing) (k l : Listing) (k_content l_content : Directory)
    (i : ℕ) (o : Object) (now : Directory) : Type 0 where
  pub before : IsBefore kind r image v m
  pub copies : HoldsCopies m.geometry m.zones image
  pub found : IsPermutation v.listings (k ∷ l ∷ rest)
  pub at : slice_get k.children i ≡ Some o
  pub from_is : is_same_path from o.path ≡ true
  pub to_is : is_same_path to (l.object.path ++ last_name to ∷ []) ≡ true
  -- refused: IntoItself
  pub not_into : is_prefix (folded_path o.path) (folded_path l.object.path) ≡ false
  pub not_copied : is_copied v from to o ≡ false
  pub no_growth : growth_in v (Command.Rename from to) ≡ None
  -- `remove`, `insert`: `absent` is its condition
  pub absent : has_name (entries_of l.content) (last_name to) ≡ false
  pub k_entries : entries_of k_content ≡ without_entry i (entries_of k.content)
  pub l_entries : entries_of l_content ≡ with_entry (record o.entry { name = last_name to }) (entries_of l.content)
  pub k_directory : IsDirectoryWritten image' v m (Command.Rename from to) k k_content
  pub l_directory : IsDirectoryWritten image' v m (Command.Rename from to) l l_content
  -- `set_name`, `set_parent`, `touch`; `write`
  pub own : (d : Listing) → Contains rest d → d.object ≡ o → IsRewritten (Command.Rename from to) d.object.path l.object.entry.address d.content now
      × AreWritten (object_bytes image' (Layout.New m) d.object) now × (entries_of now ≡ entries_of d.content)
  pub written : IsWritten m (l.object.sectors ++ (k.object.sectors ++ (if is_directory_object o then o.sectors else []))) image image'
  pub map_stays : HasSectorsOf m.geometry.sector (map_sectors m.geometry) image image'
