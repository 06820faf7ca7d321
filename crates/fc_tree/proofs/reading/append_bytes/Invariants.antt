use Rattle.std.proofs.Common.{◌≡◌, ◌<◌, ◌≤◌, ◌+◌, ◌*◌, ◌++◌, All, ℕ, length, min}
use Rattle.std.specs.Int.{div_ceil}
use Rattle.std.specs.Option.{ForSome}
use Rattle.fc_device.specs.Calls.{OnlyReads}
use Rattle.fc_objects.specs.Ahead.{ahead}
use Rattle.fc_objects.specs.Bytes.{bytes_ahead, first_bytes, length_ahead}
use Rattle.fc_objects.specs.Calls.{sectors_left}
use Rattle.fc_objects.specs.Extents.{sectors_in}
use Rattle.fc_tree.proofs.reading.append_bytes.Given as goal

abbrev pub invariant-loop-count : goal.invariant-loop-count
invariant-loop-count g l = record {
  reads : OnlyReads g.D.Disk l.fn.disk l.disk;
  few : g.D.Disk.read_calls l.disk + sectors_left l.reader ≤ g.D.Disk.read_calls l.fn.disk + div_ceil l.len l.size;
  size : l.reader.size ≡ l.size;
  on_disk : All (λ (n : ℕ). n < g.D.Disk.sectors l.disk) (ahead l.reader.sectors);
  bytes : ForSome (g.D.Disk.bytes l.fn.disk) (λ image. l.fn.into.items ++ first_bytes l.size image (sectors_in l.place) l.len ≡ l.into.items ++ bytes_ahead image l.reader);
  long : length l.fn.into.items + min l.len (length (sectors_in l.place) * l.size) ≡ length l.into.items + length_ahead l.reader;
}

abbrev pub decreases-loop-count : goal.decreases-loop-count
decreases-loop-count g l = length_ahead l.reader
