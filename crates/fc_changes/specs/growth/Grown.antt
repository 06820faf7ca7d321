-- What the calls of a command leave on a disc with a new map if a big directory grows by it. Beside each fact stands the call that
-- has it as a clause.
use Rattle.std.specs.Prelude.{◌≡◌, ◌<◌, ℕ, ◌==◌, List, length, if◌then◌else◌, Ok, IsPermutation}
use Rattle.fc_record.specs.declared.DiscRecord.{DiscRecord}
use Rattle.fc_record.specs.Kinds.{map_record}
use Rattle.fc_newmap.specs.Map.{Map, ZoneRun, hole_runs, id_runs, sector_of, with_root}
use Rattle.fc_newmap.specs.NewMap.{IsNewMap}
use Rattle.fc_newmap.specs.Copies.{HoldsCopies}
use Rattle.fc_image.specs.Walk.{Object}
use Rattle.fc_image.specs.Opening.{agreement, difference}
use Rattle.fc_image.specs.effects.Placed.{holes_left}
use Rattle.fc_image.specs.effects.Steady.{KeepsOrWritesLinks, ZoneSteady, holes_with, runs_that, zone_holes}
use Rattle.fc_plan.specs.Applied.{unless_gone}
use Rattle.fc_plan.specs.Giving.{is_one_of}
use Rattle.fc_plan.specs.Taking.{as_runs}

-- ---- the grown directory's place

-- Where it lies, and what is taken for it: `parts` become runs of `id`. If it grows where it lies, `parts` is empty and `id` means
-- nothing.
pub record NewPlace : Type 0 where
  pub address : ℕ
  pub len : ℕ
  pub sectors : List ℕ
  pub id : ℕ
  pub parts : List ZoneRun

-- a directory at its new place
abbrev pub at_place : NewPlace → Object → Object
at_place place o = record o { entry = record o.entry { address = place.address; len = place.len }; sectors = place.sectors }

-- ---- the map

-- The parts of the new object become runs of `id`, then those of the directory runs of its identifier, and then the runs that the
-- identifiers `gone` had are holes. (`apply`: `holes`, `object`, `dir`, `others`)
pub record IsGrowthSpace (m m' : Map) (id : ℕ) (parts : List ZoneRun) (place : NewPlace) (gone : List ℕ) : Type 0 where
  pub holes : (z : ℕ) → z < m.geometry.zones
      → zone_holes (hole_runs m') z ≡ holes_with (zone_holes (holes_left (holes_left (hole_runs m) parts) place.parts) z) (zone_holes (runs_that (is_one_of gone) m) z)
  pub own : 0 < length parts → IsPermutation (as_runs id parts) (id_runs m' id)
  pub dir : 0 < length place.parts → IsPermutation (as_runs place.id place.parts) (id_runs m' place.id)
  pub others : (k : ℕ) → (0 < length parts → k ≡ id → ⊥) → (0 < length place.parts → k ≡ place.id → ⊥) → id_runs m' k ≡ unless_gone gone k (id_runs m k)

-- zone 0, with the root's new address and size in the record if it is the root that grows (`set_root`)
abbrev pub zone0_with : Object → NewPlace → List ℕ → List ℕ
zone0_with o place sector = if length o.path == 0 then with_root sector place.address place.len else sector

-- a zone before its runs change
abbrev pub zone_with : Object → NewPlace → Map → ℕ → List ℕ
zone_with o place m z = if z == 0 then zone0_with o place (sector_of m 0) else sector_of m z

-- The map m' stands in both copies. It is m but for the bits of its runs, FreeLink and the checks, and the root's place.
pub record IsMapGrown (m m' : Map) (image' : List ℕ) (o : Object) (place : NewPlace) : Type 0 where
  pub is_map : IsNewMap m'
  pub geometry : m'.geometry ≡ m.geometry
  pub copies : HoldsCopies m.geometry m'.zones image'
  pub record_is : map_record (sector_of m' 0) ≡ map_record (zone0_with o place (sector_of m 0))
  pub zones : (z : ℕ) → z < m.geometry.zones → ZoneSteady m.geometry z (zone_with o place m z) (sector_of m' z)
  pub links : (z : ℕ) → z < m.geometry.zones → KeepsOrWritesLinks m m' z

-- The record has the new root, and agrees with that of the kind.
pub record HasRoot (r : DiscRecord) (m' : Map) (place : NewPlace) : Type 0 where
  pub own : DiscRecord
  pub agreed : agreement r (map_record (sector_of m' 0)) (difference r (map_record (sector_of m' 0))) ≡ Ok own
  pub address : own.root ≡ place.address
  pub len : own.root_size ≡ place.len
