use Rattle.std.proofs.Common.{◌≡◌, ◌++◌, ◌≤◌, List, ℕ, length, true}
use Rattle.std.specs.List.{Contains}
use Rattle.std.specs.Option.{ForSome}
use Rattle.fc_device.specs.Calls.{OnlyReads}
use Rattle.fc_host.specs.Answers.{AnswersCalls, joined}
use Rattle.fc_host.specs.Asked.{made_by}
use Rattle.fc_host.specs.Files.{is_there}
use Rattle.fc_objects.specs.Ahead.{ahead}
use Rattle.fc_objects.specs.Bytes.{bytes_ahead, first_bytes, length_ahead}
use Rattle.fc_objects.specs.Extents.{sectors_in}
use Rattle.fc_export.specs.Exports.{added_of}
use Rattle.fc_export.specs.Readable.{IsReadable}
use Rattle.fc_export.proofs.file.add_blocks.Given as goal

abbrev pub invariant-loop-count : goal.invariant-loop-count
invariant-loop-count g l = record {
  reads : OnlyReads g.D.Disk l.fn.disk l.disk;
  disk : IsReadable g.D.Disk l.disk l.size (ahead l.reader.sectors);
  size : l.reader.size ≡ l.size;
  room : l.size ≤ length l.block;
  faults : g.H.Host.faults l.fn.host ≤ g.H.Host.faults l.host;
  own : Contains (made_by (g.H.Host.asked l.host)) l.name;
  there : ForSome (g.H.Host.files l.host) (λ files. is_there files l.name ≡ true);
  added : (pieces : List (List ℕ)) × (g.H.Host.asked l.host ≡ g.H.Host.asked l.fn.host ++ added_of l.name pieces)
      × AnswersCalls (g.H.Host.files l.fn.host) (added_of l.name pieces) (g.H.Host.files l.host)
      × ForSome (g.D.Disk.bytes l.fn.disk) (λ image. first_bytes l.size image (sectors_in l.place) l.len ≡ joined pieces ++ bytes_ahead image l.reader);
}

abbrev pub decreases-loop-count : goal.decreases-loop-count
decreases-loop-count g l = length_ahead l.reader
