use Rattle.std.proofs.Common.{◌≡◌, ◌+◌, ◌-◌}
use Rattle.fc_device.specs.Calls.{SameForm, StopsTearRow}
use Rattle.fc_device.specs.Memory.{bytes_of, faults_of, left_of, moment_of, reads_of, sectors_written, size_of, syncs_of, writes_of, GoesOn, IsRecordedRow}
use Rattle.fc_device.specs.Numbers.{number_after}
use Rattle.fc_device.specs.Sectors.{with_row, IsMixOf}
use Rattle.fc_device.specs.Stops.{StillLeaves}
use Rattle.fc_device.proofs.RowLemmas.{memory}
use Rattle.fc_device.proofs.memory.MemoryDiskDisk.write_row.Given as goal

abbrev pub invariant-loop-i : goal.invariant-loop-i
invariant-loop-i l = record {
  form : SameForm memory l.fn.self l.self;
  goes : GoesOn l.fn.self l.self (reads_of l.fn.self) (number_after (writes_of l.fn.self) l.i) (syncs_of l.fn.self);
  left : sectors_written l.fn.self l.row.sectors ≡ l.i + sectors_written l.self (l.row.sectors - l.i);
  faults : faults_of l.self ≡ faults_of l.fn.self;
  stops : StopsTearRow memory l.fn.self l.self l.row.first l.from;
  still : StillLeaves moment_of left_of l.fn.self l.self;
  mixed : IsMixOf (size_of l.fn.self) (bytes_of l.fn.self) (with_row (size_of l.fn.self) (bytes_of l.fn.self) l.row.first l.from) (bytes_of l.self);
  done : IsRecordedRow l.fn.self l.self l.row.first l.from l.i;
}
