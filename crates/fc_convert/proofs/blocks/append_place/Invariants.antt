use Rattle.std.proofs.Common.{◌≡◌, ◌++◌, ◌+◌, ◌*◌, ◌<◌, ◌≤◌, List, ℕ, length, min}
use Rattle.std.specs.Prelude.{All}
use Rattle.std.specs.Option.{ForSome}
use Rattle.fc_device.specs.Calls.{OnlyReads}
use Rattle.fc_objects.specs.Ahead.{ahead}
use Rattle.fc_objects.specs.Bytes.{bytes_ahead, first_bytes, length_ahead}
use Rattle.fc_objects.specs.Extents.{sectors_in}
use Rattle.fc_convert.proofs.blocks.append_place.Given as goal

abbrev pub invariant-loop-count : goal.invariant-loop-count
invariant-loop-count g l = record {
  reads : OnlyReads g.D.Disk l.fn.disk l.disk;
  size : l.reader.size ≡ l.size;
  on_disk : All (λ n. n < g.D.Disk.sectors l.disk) (ahead l.reader.sectors);
  room : l.size ≤ length l.block;
  given : ForSome (g.D.Disk.bytes l.fn.disk) (λ image. l.into.items ++ bytes_ahead image l.reader ≡ l.fn.into.items ++ first_bytes l.size image (sectors_in l.place) l.len);
  long : length l.into.items + length_ahead l.reader ≡ length l.fn.into.items + min l.len (length (sectors_in l.place) * l.size);
}

abbrev pub decreases-loop-count : goal.decreases-loop-count
decreases-loop-count g l = length_ahead l.reader
