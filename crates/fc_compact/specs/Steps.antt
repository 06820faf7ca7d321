-- What each step of compaction does to a map and to an image, and what one step after another does.
use Rattle.std.specs.Prelude.{◌≡◌, ◌<◌, ◌≤◌, ℕ, false, true, List, length, Result, OnOk}
use Rattle.fc_device.specs.Calls.{FailsByFault, SameForm, StopsAndExitsLeave}
use Rattle.fc_device.specs.declared.disk.Disk.{Ghosts}
use Rattle.fc_newmap.specs.Map.{Map, ZoneRun, bits_in, id_runs}
use Rattle.fc_newmap.specs.NewMap.{IsNewMap}
use Rattle.fc_alloc.specs.declared.owner.Owner.{Owner}
use Rattle.fc_image.specs.Moves.{KeepsObjects}
use Rattle.fc_image.specs.effects.Settled.{KeepsBits}
use Rattle.fc_compact.specs.Compaction.{ChangesLoose, ZoneStays}
use Rattle.fc_compact.specs.Ready.{Stands, is_movable_by}

-- Every object is there with its bytes, and only sectors of the map, of holes and of what may move have changed.
pub record Preserves (m : Map) (owners : List Owner) (was image : List ℕ) : Type 0 where
  pub objects : KeepsObjects m.geometry was image
  pub frame : ChangesLoose m owners was image

-- What a call that moves objects keeps: every crash and every exit leaves all objects, and changes only the map, holes and what may
-- move; it fails only if the disk's count of faults rose; and at Ok the map stands for the disk again.
pub record MoveKeeps {D T E : Type 0} (d : Ghosts D) (old new : D) (m m' : Map) (owners : List Owner) (result : Result T E) : Type 0 where
  pub leaves : StopsAndExitsLeave d old new (Preserves m owners)
  pub stands : OnOk result (Stands d new m' owners)
  pub geometry : m'.geometry ≡ m.geometry
  pub form : SameForm d old new
  pub cause : FailsByFault d old new result

-- From one map to another of the same disc: what may not move keeps its runs, and what is no run its bits.
pub record Leads (owners : List Owner) (m m' : Map) : Type 0 where
  pub was : IsNewMap m
  pub map : IsNewMap m'
  pub geometry : m'.geometry ≡ m.geometry
  pub fixed : (id : ℕ) → is_movable_by owners id ≡ false → id_runs m' id ≡ id_runs m id
  pub zones : (z : ℕ) → z < m.geometry.zones → ZoneStays m m' z

-- And what may move has as many bits, or one run for several with hardly more, and no more runs.
pub record Packs (owners : List Owner) (m m' : Map) : Type 0 where
  pub leads : Leads owners m m'
  pub bits : (id : ℕ) → is_movable_by owners id ≡ true → KeepsBits m m' id
  pub runs : (id : ℕ) → is_movable_by owners id ≡ true → length (id_runs m' id) ≤ length (id_runs m id)
  pub some : (id : ℕ) → is_movable_by owners id ≡ true → 0 < length (id_runs m id) → 0 < length (id_runs m' id)

-- as many bits, no more runs, and some if there were some
pub record SamePart (was is : List ZoneRun) : Type 0 where
  pub bits : bits_in is ≡ bits_in was
  pub fewer : length is ≤ length was
  pub some : 0 < length was → 0 < length is
