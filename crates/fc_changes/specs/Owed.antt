-- What the calls of a command leave on a disc with a new map, if each directory that they write is written to its old place. Beside
-- each fact stands the call that has it as a clause.
use Rattle.std.specs.Prelude.{◌≡◌, ◌<◌, ℕ, true, false, List, [], ◌∷◌, ◌++◌, length, IsPermutation}
use Rattle.fc_record.specs.declared.DiscRecord.{DiscRecord}
use Rattle.fc_record.specs.declared.Kind.{Kind}
use Rattle.fc_record.specs.Kinds.{map_record}
use Rattle.fc_newmap.specs.Map.{Map, ZoneRun, hole_runs, id_runs, is_used, sector_of}
use Rattle.fc_newmap.specs.NewMap.{IsNewMap}
use Rattle.fc_newmap.specs.Copies.{HoldsCopies}
use Rattle.fc_model.specs.Command.{Command}
use Rattle.fc_dirs.specs.Directory.{Directory}
use Rattle.fc_image.specs.Layout.{Layout}
use Rattle.fc_image.specs.Report.{holder_address}
use Rattle.fc_image.specs.Walk.{Object, Listing, object_bytes, is_directory_object}
use Rattle.fc_image.specs.Opening.{Opened}
use Rattle.fc_image.specs.Stays.{IsNewKind, OpensAs}
use Rattle.fc_image.specs.Written.{WritesOnly}
use Rattle.fc_image.specs.effects.Placed.{holes_left}
use Rattle.fc_image.specs.effects.Steady.{AreWritten, IsRewritten, KeepsOrWritesLinks, ZoneSteady, holes_with, is_given_back, runs_that, zone_holes}
use Rattle.fc_plan.specs.Applied.{unless_gone}
use Rattle.fc_plan.specs.Giving.{is_one_of}
use Rattle.fc_plan.specs.Taking.{as_runs}

-- ---- the disc before

-- The image opens with the map m, which the volume has in memory.
pub record IsBefore (kind : Kind) (r : DiscRecord) (image : List ℕ) (v : Opened) (m : Map) : Type 0 where
  -- `Volume::mount`
  pub new_kind : IsNewKind kind r
  pub opens : OpensAs image kind v
  pub layout : v.layout ≡ Layout.New m
  -- `NewMap::load`
  pub is_map : IsNewMap m

-- ---- what is written

-- The image keeps its length, and no sectors but these and those of the map are written. Of both copies of the map `commit` says
-- it (`ends.frame`), and `Disk::write` of each other sector.
pub record IsWritten (m : Map) (sectors image image' : List ℕ) : Type 0 where
  pub length_stays : length image' ≡ length image
  pub writes : WritesOnly m sectors image image'

-- Directory l says `content`, and has all its bytes as writing makes them.
pub record IsDirectoryWritten (image' : List ℕ) (v : Opened) (m' : Map) (c : Command) (l : Listing) (content : Directory) : Type 0 where
  -- The edits of directories are equations: `insert`, `remove`, `change`, `set_parent`, `touch`.
  pub says : IsRewritten c l.object.path (holder_address v.listings l.object.path) l.content content
  -- `SmallDir::write` and `BigDir::write`: `written`
  pub bytes : AreWritten (object_bytes image' (Layout.New m') l.object) content

-- ---- the map afterwards

-- The map m' stands in both copies. It is m but for the bits of its runs, FreeLink and the checks.
pub record IsMapAfter (m m' : Map) (image' : List ℕ) : Type 0 where
  -- `commit`, `commit_wide`: `runs.map`, `runs.geometry`, `ends.copies`
  pub is_map : IsNewMap m'
  pub geometry : m'.geometry ≡ m.geometry
  pub copies : HoldsCopies m.geometry m'.zones image'
  -- `apply`, `take`, `give_back`: `edits.outside`; then `commit`: `contents`
  pub record_stays : map_record (sector_of m' 0) ≡ map_record (sector_of m 0)
  pub zones : (z : ℕ) → z < m.geometry.zones → ZoneSteady m.geometry z (sector_of m z) (sector_of m' z)
  -- `edits.links`; then `commit`: `runs`, `contents`
  pub links : (z : ℕ) → z < m.geometry.zones → KeepsOrWritesLinks m m' z

-- ---- its runs

-- The parts, cut from the fronts of holes, are runs of the identifier `id`, and the runs that the identifiers `gone` had are holes.
-- If nothing is taken, `parts` is empty and `id` means nothing.
pub record IsSpaceEdit (m m' : Map) (id : ℕ) (parts : List ZoneRun) (gone : List ℕ) : Type 0 where
  -- `give_back`, `apply`: `holes`
  pub holes : (z : ℕ) → z < m.geometry.zones
      → zone_holes (hole_runs m') z ≡ holes_with (zone_holes (holes_left (hole_runs m) parts) z) (zone_holes (runs_that (is_one_of gone) m) z)
  -- `take`: `gained`, `apply`: `object`
  pub own : 0 < length parts → IsPermutation (id_runs m' id) (id_runs m id ++ as_runs id parts)
  -- `take`, `apply`: `others`, `give_back`: `of_ids`
  pub others : (k : ℕ) → (0 < length parts → k ≡ id → ⊥) → id_runs m' k ≡ unless_gone gone k (id_runs m k)

-- Exactly those identifiers go back that an object owned and none owns any more. (`Owners` has how many own each.)
pub record GivesBack (m : Map) (gone : List ℕ) (before after : List Object) : Type 0 where
  pub exactly : (id : ℕ) → is_used m id ≡ true → is_one_of gone id ≡ is_given_back before after id

-- ---- who goes

-- The object is a file, or an empty directory with its listing.
abbrev pub GoesAlone : List Listing → Object → Type 0
GoesAlone [] o = is_directory_object o ≡ false
GoesAlone (d ∷ []) o = (d.object ≡ o) × (is_directory_object o ≡ true) × (d.children ≡ [])
GoesAlone (d ∷ e ∷ listings) o = ⊥
