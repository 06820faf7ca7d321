-- Changes of space on a map, each committed by itself.
use Rattle.std.specs.Prelude.{◌≡◌, ◌<◌, ℕ, ◌++◌, false, List, [], filter, IsPermutation, Option, None}
use Rattle.fc_record.specs.Kinds.{map_record}
use Rattle.fc_newmap.specs.Map.{Map, ZoneRun, hole_runs, id_runs, runs_of, sector_of, zone_numbers}
use Rattle.fc_newmap.specs.NewMap.{IsNewMap}
use Rattle.fc_newmap.specs.Copies.{HoldsCopies}
use Rattle.fc_image.specs.effects.Placed.{holes_left}
use Rattle.fc_image.specs.effects.Steady.{KeepsOrWritesLinks, ZoneSteady}
use Rattle.fc_plan.specs.declared.plan.Plan.{Plan}
use Rattle.fc_plan.specs.Applied.{is_changed}
use Rattle.fc_plan.specs.Giving.{is_one_of}
use Rattle.fc_plan.specs.Taking.{as_runs, own_runs, runs_taken}
use Rattle.fc_changes.specs.Owed.{IsMapAfter, IsSpaceEdit, IsWritten}

-- the zones in which a plan takes something, or identifiers give something back, as `fc_plan::changed_zones` lists them
abbrev pub zones_changed : Map → Option Plan → List ℕ → List ℕ
zones_changed m plan gone = filter (is_changed m plan None gone) (zone_numbers m.geometry)

-- The map m' is m but for the bits of its runs, FreeLink and the checks.
pub record IsMapEdited (m m' : Map) : Type 0 where
  pub is_map : IsNewMap m'
  pub geometry : m'.geometry ≡ m.geometry
  pub record_stays : map_record (sector_of m' 0) ≡ map_record (sector_of m 0)
  pub zones : (z : ℕ) → z < m.geometry.zones → ZoneSteady m.geometry z (sector_of m z) (sector_of m' z)
  pub links : (z : ℕ) → z < m.geometry.zones → KeepsOrWritesLinks m m' z

-- The parts, cut from the fronts of holes, are runs of the identifier, and all else is as it was.
pub record HasTaken (m m' : Map) (id : ℕ) (parts : List ZoneRun) : Type 0 where
  pub geometry : m'.geometry ≡ m.geometry
  pub runs : (z : ℕ) → z < m.geometry.zones → runs_of m' z ≡ runs_taken id parts z (runs_of m z)
  pub holes : hole_runs m' ≡ holes_left (hole_runs m) parts
  pub own : id_runs m' id ≡ own_runs m id parts
  pub gained : IsPermutation (id_runs m' id) (id_runs m id ++ as_runs id parts)
  pub others : (other : ℕ) → (other ≡ id → ⊥) → id_runs m' other ≡ id_runs m other

-- ---- one change after another

-- What was taken by one commit, and given back by a later one, is one change of space.
pub record StepsLaw : Type 0 where
  pub edited : (m mid m' : Map) → IsMapEdited m mid → IsMapEdited mid m' → IsMapEdited m m'
  pub taken : (m mid m' : Map) (id : ℕ) (parts : List ZoneRun) (gone : List ℕ) → IsNewMap m → IsMapEdited m mid → HasTaken m mid id parts → IsMapEdited mid m' → IsSpaceEdit mid m' 0 [] gone
      → is_one_of gone id ≡ false → IsSpaceEdit m m' id parts gone
  -- what is to go back later can be listed before anything is taken
  pub listed : (m mid : Map) (id : ℕ) (parts : List ZoneRun) (gone : List ℕ) → HasTaken m mid id parts → is_one_of gone id ≡ false → zones_changed mid None gone ≡ zones_changed m None gone
  -- if nothing is taken, the identifier means nothing
  pub given : (m m' : Map) (id : ℕ) (gone : List ℕ) → IsSpaceEdit m m' 0 [] gone → IsSpaceEdit m m' id [] gone
  pub after : (m m' : Map) (image : List ℕ) → IsMapEdited m m' → HoldsCopies m.geometry m'.zones image → IsMapAfter m m' image
  -- what may be written is said by the geometry alone
  pub written : (m m' : Map) (sectors image image' : List ℕ) → m'.geometry ≡ m.geometry → IsWritten m' sectors image image' → IsWritten m sectors image image'
