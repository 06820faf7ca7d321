-- What compaction leaves, by the owners of identifiers.
use Rattle.std.specs.Prelude.{◌≡◌, ◌<◌, ◌≤◌, ℕ, ◌==◌, ◌&&◌, Bool, true, false, not, List, length, filter}
use Rattle.fc_device.specs.Sectors.{sector_at}
use Rattle.fc_record.specs.declared.Geometry.{Geometry}
use Rattle.fc_zone.specs.declared.Run.{Run}
use Rattle.fc_zone.specs.declared.RunKind.{RunKind}
use Rattle.fc_zone.specs.declared.RunKind.TheVariants as kinds
use Rattle.fc_newmap.specs.Map.{Map, all_runs, id_runs, is_used, map_sectors, runs_of, sector_of, sectors_of}
use Rattle.fc_alloc.specs.declared.owner.Owner.{Owner}
use Rattle.fc_image.specs.Layout.{is_among}
use Rattle.fc_image.specs.Walk.{Object}
use Rattle.fc_image.specs.effects.Settled.{CompactedMap, KeepsBits, can_join, can_slide, is_settled_map, passes_adjacent}
use Rattle.fc_image.specs.effects.Steady.{KeepsOrWritesLinks, ZoneSteady}
use Rattle.fc_compact.specs.Ready.{AreOwnersOf, is_movable_by}

-- ---- the runs

-- Nothing is left to do between a run and the next: no slide, no two holes and no two runs of one movable identifier.
abbrev pub is_done_by : Geometry → List Owner → Run → Run → Bool
is_done_by g owners run next = done run.kind next.kind
  where
    done : RunKind → RunKind → Bool
    done kinds.Hole kinds.Hole = false
    done kinds.Hole (kinds.Id id) = not (is_movable_by owners id && can_slide g run.len next.len)
    done (kinds.Id id) kinds.Hole = true
    done (kinds.Id id) (kinds.Id other) = not ((id == other) && is_movable_by owners id)

-- Nothing is left to do: in no zone between its runs, and no identifier's runs can be joined.
pub record IsSettledBy (m : Map) (owners : List Owner) : Type 0 where
  pub zones : (z : ℕ) → z < m.geometry.zones → passes_adjacent (is_done_by m.geometry owners) (runs_of m z) ≡ true
  pub ids : (id : ℕ) → is_movable_by owners id ≡ true → can_join m id ≡ false

-- No identifier is new, and one that may move has as many bits as before, or one run for several with hardly more, and no more runs.
pub record CompactedBy (m m' : Map) (owners : List Owner) : Type 0 where
  pub no_new : (id : ℕ) → is_used m id ≡ false → is_used m' id ≡ false
  pub bits : (id : ℕ) → is_movable_by owners id ≡ true → KeepsBits m m' id
  pub runs : (id : ℕ) → is_movable_by owners id ≡ true → length (id_runs m' id) ≤ length (id_runs m id)

-- If the owners own what the objects own, this is what is said of the objects.
pub record ByOwnersLaw : Type 0 where
  pub settled : (m : Map) (owners : List Owner) (objects : List Object) → AreOwnersOf owners objects → IsSettledBy m owners → is_settled_map m objects ≡ true
  pub compacted : (m m' : Map) (owners : List Owner) (objects : List Object) → AreOwnersOf owners objects → CompactedBy m m' owners → CompactedMap m m' objects

-- ---- the bytes

-- The run is a hole, or of an identifier that may move.
abbrev pub is_loose : List Owner → RunKind → Bool
is_loose owners kinds.Hole = true
is_loose owners (kinds.Id id) = is_movable_by owners id

-- the sectors of holes and of what may move
abbrev pub loose_sectors : Map → List Owner → List ℕ
loose_sectors m owners = sectors_of m.geometry (filter (λ p. is_loose owners p.1.kind) (all_runs m))

-- Of an image before, only sectors of the map, of holes and of what may move have changed.
pub record ChangesLoose (m : Map) (owners : List Owner) (was image : List ℕ) : Type 0 where
  pub same_length : length image ≡ length was
  pub outside : (s : ℕ) → is_among (map_sectors m.geometry) s ≡ false → is_among (loose_sectors m owners) s ≡ false
      → sector_at m.geometry.sector image s ≡ sector_at m.geometry.sector was s

-- A zone has its bits outside its runs, but for the checks and FreeLink, and its links are kept or written in full.
pub record ZoneStays (m m' : Map) (z : ℕ) : Type 0 where
  pub outside : ZoneSteady m.geometry z (sector_of m z) (sector_of m' z)
  pub links : KeepsOrWritesLinks m m' z
