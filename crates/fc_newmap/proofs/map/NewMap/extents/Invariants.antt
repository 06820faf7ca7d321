use Rattle.std.proofs.Common.{◌≡◌, ◌++◌, List, map}
use Rattle.fc_newmap.specs.Map.{ZoneRun, extent_of, id_runs}
use Rattle.fc_newmap.specs.Walk.{StandsAt, bits_left}
use Rattle.fc_newmap.proofs.map.NewMap.extents.Given as goal

abbrev pub invariant-loop-z : goal.invariant-loop-z
invariant-loop-z l = (left : List ZoneRun) × (StandsAt l.self left l.cursor × (l.extents.items ++ map (extent_of l.self.geometry) left ≡ map (extent_of l.self.geometry) (id_runs l.self l.id)))

abbrev pub decreases-loop-z : goal.decreases-loop-z
decreases-loop-z l = bits_left l.cursor.walk
