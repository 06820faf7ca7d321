-- The laws from edits of a map to what growth owes of it.
use Rattle.std.specs.Prelude.{◌≡◌, ◌<◌, ◌^◌, ◌==◌, ℕ, true, List, length, if◌then◌else◌, Option, IfSome}
use Rattle.fc_record.specs.declared.DiscRecord.{DiscRecord}
use Rattle.fc_record.specs.declared.Kind.{Kind}
use Rattle.fc_record.specs.Record.{is_root_right, is_root_size_right}
use Rattle.fc_newmap.specs.Map.{Map, hole_runs, id_runs, sector_of, with_root, with_zone}
use Rattle.fc_newmap.specs.NewMap.{rooted}
use Rattle.fc_newmap.specs.Edits.{AreEdits, KeepsRuns}
use Rattle.fc_newmap.specs.Copies.{CommitEnds}
use Rattle.fc_newmap.specs.Committing.{KeepsContents}
use Rattle.fc_image.specs.Walk.{Object}
use Rattle.fc_image.specs.Opening.{Opened}
use Rattle.fc_image.specs.effects.Placed.{holes_left}
use Rattle.fc_image.specs.effects.Steady.{holes_with, runs_that, zone_holes}
use Rattle.fc_plan.specs.declared.plan.Plan.{Plan}
use Rattle.fc_plan.specs.Applied.{IsOther, IsTakenIn, id_in, parts_in, unless_gone}
use Rattle.fc_plan.specs.Parts.{fronts}
use Rattle.fc_plan.specs.Giving.{is_one_of}
use Rattle.fc_changes.specs.Owed.{IsBefore}
use Rattle.fc_changes.specs.growth.Grown.{HasRoot, IsGrowthSpace, IsMapGrown, NewPlace}

-- what `apply` did
pub record HasApplied (m m' : Map) (object dir : Option Plan) (gone : List ℕ) : Type 0 where
  pub edits : AreEdits m m'
  pub holes : (z : ℕ) → z < m.geometry.zones
      → zone_holes (hole_runs m') z ≡ holes_with (zone_holes (holes_left (holes_left (hole_runs m) (parts_in object)) (parts_in dir)) z) (zone_holes (runs_that (is_one_of gone) m) z)
  pub object_taken : IfSome object (IsTakenIn m')
  pub dir_taken : IfSome dir (IsTakenIn m')
  pub others : (id : ℕ) → IsOther id object → IsOther id dir → id_runs m' id ≡ unless_gone gone id (id_runs m id)

-- a plan takes something
abbrev pub HasParts : Plan → Type 0
HasParts plan = 0 < length (fronts plan.parts.items)

-- the map with the new root in its record, if it is the root that grows (`set_root`)
abbrev pub rooted_map : Map → Object → NewPlace → Map
rooted_map m o place = if length o.path == 0 then with_zone m 0 (with_root (sector_of m 0) place.address place.len) else m

pub record GrownMapsLaw : Type 0 where
  -- `set_root` if the root grows, `apply`, and the commit
  pub space : (m mid m' : Map) (o : Object) (place : NewPlace) (object dir : Option Plan) (gone : List ℕ) → KeepsRuns m (rooted_map m o place) → HasApplied (rooted_map m o place) mid object dir gone
      → KeepsRuns mid m' → IfSome object HasParts → IfSome dir HasParts → place.id ≡ id_in dir → place.parts ≡ parts_in dir → IsGrowthSpace m m' (id_in object) (parts_in object) place gone
  pub map : (m mid m' : Map) (o : Object) (place : NewPlace) (start image' : List ℕ) → KeepsRuns m (rooted_map m o place) → AreEdits (rooted_map m o place) mid → KeepsRuns mid m' → KeepsContents mid m'
      → CommitEnds m.geometry start m'.zones image' → IsMapGrown m m' image' o place
  -- The root's numbers are those that `set_root` requires.
  pub root : (kind : Kind) (r : DiscRecord) (image image' : List ℕ) (v : Opened) (m m' : Map) (o : Object) (place : NewPlace) → IsBefore kind r image v m → IsMapGrown m m' image' o place → length o.path ≡ 0
      → place.address < 2 ^ 32 → place.len < 2 ^ 32 → is_root_right (rooted m place.address place.len) ≡ true → is_root_size_right (rooted m place.address place.len) ≡ true → HasRoot r m' place
