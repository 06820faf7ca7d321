use Rattle.std.proofs.Common.{◌≡◌, ◌≤◌, ◌<◌, ◌*◌, ◌++◌, ℕ, List, length, Ok}
use Rattle.fc_objects.specs.Extents.{extent_sectors}
use Rattle.fc_import.specs.Imports.{HasLeft, Imports}
use Rattle.fc_import.proofs.place.import_extent.Given as goal

abbrev pub invariant-loop-ahead : goal.invariant-loop-ahead
invariant-loop-ahead g l = record {
  done : (done : List ℕ) × (extent_sectors l.fn.extent ≡ done ++ extent_sectors l.ahead) × Imports {T = Unit {0}} g.D.Disk g.B.Supply done l.left l.fn.disk l.disk l.fn.from l.from (Ok tt);
  more : HasLeft g.B.Supply l.more l.from;
  some : 0 < l.most;
  room : l.most * l.size ≤ length l.block;
  disk_later : g.D.Disk.faults l.fn.disk ≤ g.D.Disk.faults l.disk;
  supply_later : g.B.Supply.faults l.fn.from ≤ g.B.Supply.faults l.from;
}

abbrev pub decreases-loop-ahead : goal.decreases-loop-ahead
decreases-loop-ahead g l = l.ahead.sectors
