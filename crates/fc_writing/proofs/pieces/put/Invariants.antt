use Rattle.std.proofs.Common.{[], ◌≤◌, IsFalse, take}
use Rattle.std.specs.List.{flat_map}
use Rattle.std.specs.Option.{ForSome}
use Rattle.fc_device.specs.Calls.{SameForm, StopsAndExitsLeave}
use Rattle.fc_writing.specs.Content.{HasContent, IsPart}
use Rattle.fc_writing.specs.Ready.{content_of}
use Rattle.fc_writing.proofs.pieces.put.Given as goal

abbrev pub invariant-loop-piece : goal.invariant-loop-piece
invariant-loop-piece g l = record {
  form : SameForm g.D.Disk l.fn.disk l.disk;
  settled : IsFalse (g.D.Disk.pending l.disk);
  keeps : StopsAndExitsLeave g.D.Disk l.fn.disk l.disk (IsPart l.size [] (flat_map (content_of l.size) l.pieces));
  written : ForSome (g.D.Disk.bytes l.disk) (HasContent l.size (flat_map (content_of l.size) (take l.piece-index l.pieces)));
  faults : g.D.Disk.faults l.fn.disk ≤ g.D.Disk.faults l.disk;
}
