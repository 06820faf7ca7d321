-- What loading a map gives.
use Rattle.std.specs.Prelude.{ℕ, List, Option, Some, None, Result, Ok, Err}
use Rattle.std.specs.List.{zip}
use Rattle.fc_record.specs.declared.Geometry.{Geometry}
use Rattle.fc_zone.specs.declared.ZoneFault.{ZoneFault}
use Rattle.fc_newmap.specs.declared.MapError.{MapError}
use Rattle.fc_newmap.specs.declared.MapError.TheVariants.{Zone}
use Rattle.fc_newmap.specs.Map.{Map, zones_in, zone_numbers, first_fault}
use Rattle.fc_newmap.specs.NewMap.{map_in}

-- the map, unless a zone is at fault
abbrev pub unless_fault : Map → Option ZoneFault → Result Map MapError
unless_fault m None = Ok m
unless_fault m (Some fault) = Err (Zone fault)

-- the map of the bytes of one copy, or the fault of its first zone that has one
abbrev pub loaded : Geometry → List ℕ → Result Map MapError
loaded g bytes = unless_fault (map_in g bytes) (first_fault g (zip (zone_numbers g) (zones_in g bytes)))
