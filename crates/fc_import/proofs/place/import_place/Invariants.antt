use Rattle.std.proofs.Common.{◌≤◌, ◌≡◌, length, take, Ok}
use Rattle.fc_objects.specs.Extents.{sectors_in}
use Rattle.fc_import.specs.Imports.{HasLeft, Imports}
use Rattle.fc_import.proofs.place.import_place.Given as goal

abbrev pub invariant-loop-extent : goal.invariant-loop-extent
invariant-loop-extent g l = record {
  done : Imports {T = Unit {0}} g.D.Disk g.B.Supply (sectors_in (take l.extent-index l.place)) (g.B.Supply.total l.fn.from) l.fn.disk l.disk l.fn.from l.from (Ok tt);
  left : HasLeft g.B.Supply l.left l.from;
  room : l.size ≤ length l.block;
  disk_later : g.D.Disk.faults l.fn.disk ≤ g.D.Disk.faults l.disk;
  supply_later : g.B.Supply.faults l.fn.from ≤ g.B.Supply.faults l.from;
}
