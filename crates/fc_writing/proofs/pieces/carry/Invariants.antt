use Rattle.std.proofs.Common.{[], ◌≤◌, IsFalse, take}
use Rattle.std.specs.List.{flat_map}
use Rattle.std.specs.Option.{ForSome}
use Rattle.fc_device.specs.Calls.{SameForm, StopsAndExitsLeave}
use Rattle.fc_writing.specs.Content.{HasContent, IsPart}
use Rattle.fc_writing.specs.Ready.{carried_by}
use Rattle.fc_writing.proofs.pieces.carry.Given as goal

abbrev pub invariant-loop-transfer : goal.invariant-loop-transfer
invariant-loop-transfer g l = record {
  form : SameForm g.D.Disk l.fn.disk l.disk;
  settled : IsFalse (g.D.Disk.pending l.disk);
  keeps : StopsAndExitsLeave g.D.Disk l.fn.disk l.disk (λ was image. IsPart l.size [] (flat_map (carried_by l.size was) l.carried) was image);
  written : ForSome (g.D.Disk.bytes l.fn.disk) (λ was. ForSome (g.D.Disk.bytes l.disk) (HasContent l.size (flat_map (carried_by l.size was) (take l.transfer-index l.carried))));
  faults : g.D.Disk.faults l.fn.disk ≤ g.D.Disk.faults l.disk;
}
