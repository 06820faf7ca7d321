use Rattle.std.proofs.Common.{◌≡◌, ◌++◌, List, map}
use Rattle.fc_newmap.specs.Map.{ZoneRun, extent_of, hole_runs}
use Rattle.fc_newmap.specs.Walk.{StandsBefore, bits_left, holes_in}
use Rattle.fc_newmap.proofs.map.NewMap.holes.Given as goal

abbrev pub invariant-loop-z : goal.invariant-loop-z
invariant-loop-z l = (left : List ZoneRun) × (StandsBefore l.self left l.walk × (l.extents.items ++ map (extent_of l.self.geometry) (holes_in left) ≡ map (extent_of l.self.geometry) (hole_runs l.self)))

abbrev pub decreases-loop-z : goal.decreases-loop-z
decreases-loop-z l = bits_left l.walk
