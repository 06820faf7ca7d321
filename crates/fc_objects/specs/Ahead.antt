-- What is ahead in a walk over an object.
use Rattle.std.specs.Prelude.{ℕ, List, ◌++◌}
use Rattle.fc_objects.specs.declared.sectors.Sectors.{Sectors}
use Rattle.fc_objects.specs.Extents.{extent_sectors, sectors_in}

-- the sectors that are ahead
unfoldable pub ahead : Sectors → List ℕ
ahead s = extent_sectors s.row ++ sectors_in s.rest.now
