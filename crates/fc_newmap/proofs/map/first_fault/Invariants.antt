use Rattle.std.proofs.Common.{◌<◌, ℕ}
use Rattle.fc_zone.specs.Zone.{Zone}
use Rattle.fc_newmap.specs.Map.{runs_of, sector_of, shape}
use Rattle.fc_newmap.specs.NewMap.{map_in}
use Rattle.fc_newmap.proofs.map.first_fault.Given as goal

abbrev pub invariant-loop-z : goal.invariant-loop-z
invariant-loop-z l = (k : ℕ) → k < l.z → Zone (shape l.g k) (sector_of (map_in l.g l.zones) k) (runs_of (map_in l.g l.zones) k)
