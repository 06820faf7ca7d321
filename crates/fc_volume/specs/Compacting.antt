-- What compaction of a volume answers and leaves.
use Rattle.std.specs.Prelude.{◌≡◌, ◌<◌, false, List, ℕ, Some}
use Rattle.std.specs.Option.{ForSome}
use Rattle.fc_device.specs.declared.disk.Disk.{Ghosts}
use Rattle.fc_device.specs.Calls.{StopsAndExitsLeave}
use Rattle.fc_record.specs.declared.DiscRecord.{DiscRecord}
use Rattle.fc_record.specs.declared.Kind.{Kind}
use Rattle.fc_record.specs.Kinds.{map_record}
use Rattle.fc_newmap.specs.Map.{Map, id_runs, sector_of}
use Rattle.fc_newmap.specs.NewMap.{IsNewMap}
use Rattle.fc_alloc.specs.declared.owner.Owner.{Owner}
use Rattle.fc_image.specs.Layout.{Layout}
use Rattle.fc_image.specs.Objects.{objects_of}
use Rattle.fc_image.specs.Opening.{Opened}
use Rattle.fc_image.specs.Moves.{KeepsObjects}
use Rattle.fc_image.specs.Stays.{IsNewKind, OpensAs}
use Rattle.fc_image.specs.effects.Effect.{Compacts}
use Rattle.fc_compact.specs.Ready.{AreOwnersOf, IsReady, is_movable_by}
use Rattle.fc_compact.specs.Compaction.{ChangesLoose, CompactedBy, IsSettledBy, ZoneStays}
use Rattle.fc_tree.specs.Parts.{Parts, ArePartsOf}
use Rattle.fc_writing.specs.declared.copies.Copies.{Copies}
use Rattle.fc_writing.specs.Copies.{HasCopies}

-- ---- the map

-- The image opens as a kind with this map, its copies are as they are known to be, and these are its owners.
pub record CanCompact (m : Map) (copies : Copies) (owners : List Owner) (image : List ℕ) : Type 0 where
  pub kind : Kind
  pub of_record : DiscRecord
  pub view : Opened
  pub new_kind : IsNewKind kind of_record
  pub opens : OpensAs image kind view
  pub layout : view.layout ≡ Layout.New m
  pub copies_are : HasCopies copies m image
  pub owned : AreOwnersOf owners (objects_of view.listings)

-- What compaction has made of a map in memory, by the owners of its identifiers.
pub record IsCompacted (m m' : Map) (owners : List Owner) : Type 0 where
  pub geometry : m'.geometry ≡ m.geometry
  pub was_map : IsNewMap m
  pub is_map : IsNewMap m'
  pub settled : IsSettledBy m' owners
  pub compacted : CompactedBy m m' owners
  pub fixed : (id : ℕ) → is_movable_by owners id ≡ false → id_runs m' id ≡ id_runs m id
  pub zones : (z : ℕ) → z < m.geometry.zones → ZoneStays m m' z
  pub version : (map_record (sector_of m' 0)).version ≡ (map_record (sector_of m 0)).version

-- Every crash and every exit keeps all objects, and changes only the map, holes and what may move.
pub record KeepsDisc {D : Type 0} (d : Ghosts D) (m : Map) (owners : List Owner) (old new : D) : Type 0 where
  pub objects : StopsAndExitsLeave d old new (KeepsObjects m.geometry)
  pub frame : StopsAndExitsLeave d old new (ChangesLoose m owners)

-- The map in memory is compacted, and if the disk tells its bytes, its image has that map.
pub record IsDone {D : Type 0} (d : Ghosts D) (m m' : Map) (owners : List Owner) (new : D) : Type 0 where
  pub map : IsCompacted m m' owners
  pub ready : ForSome (d.bytes new) (IsReady m' owners)

-- ---- the volume

-- As each kind as which the image opens, and by each view whose parts these are, the other image is compacted, and has the other parts.
abbrev pub CompactsParts : Parts → Parts → List ℕ → List ℕ → Type 0
CompactsParts was now image other = (kind : Kind) (view : Opened) → OpensAs image kind view → ArePartsOf was view
    → (after : Opened) × Compacts kind (record { image = image; view = view }) (record { image = other; view = after }) × ArePartsOf now after

-- If the disk tells its bytes, it has another image afterwards, and is compacted so.
abbrev pub HasCompacted : {D : Type 0} → Ghosts D → Parts → Parts → D → D → Type 0
HasCompacted d was now old new = ForSome (d.bytes old) (λ image. (other : List ℕ) × (d.bytes new ≡ Some other) × CompactsParts was now image other)
