use Rattle.std.proofs.Common.{◌≡◌, ◌++◌, ◌≤◌, List, ℕ, length}
use Rattle.std.specs.Option.{ForSome}
use Rattle.sha2.specs.Hashers.{Holds256}
use Rattle.fc_device.specs.Calls.{OnlyReads}
use Rattle.fc_image.specs.Layout.{bytes_in}
use Rattle.fc_objects.specs.Ahead.{ahead}
use Rattle.fc_objects.specs.Bytes.{bytes_ahead, length_ahead}
use Rattle.fc_objects.specs.Extents.{sectors_in}
use Rattle.fc_shell.specs.Readable.{HasSectors}
use Rattle.fc_shell.proofs.files.hash_blocks.Given as goal

abbrev pub invariant-loop-count : goal.invariant-loop-count
invariant-loop-count g l = record {
  reads : OnlyReads g.D.Disk l.fn.disk l.disk;
  size : l.reader.size ≡ l.size;
  on_disk : HasSectors g.D.Disk l.disk (ahead l.reader.sectors);
  room : l.size ≤ length l.block;
  given : ForSome (g.D.Disk.bytes l.fn.disk) (λ image. (done : List ℕ) × Holds256 l.hasher done
      × (bytes_in l.size image (sectors_in l.place) l.len ≡ done ++ bytes_ahead image l.reader));
}

abbrev pub decreases-loop-count : goal.decreases-loop-count
decreases-loop-count g l = length_ahead l.reader
