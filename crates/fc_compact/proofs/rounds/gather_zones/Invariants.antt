use Rattle.std.proofs.Common.{◌≡◌, ◌≤◌, []}
use Rattle.std.specs.Option.{ForSome}
use Rattle.fc_device.specs.Calls.{SameForm, StopsAndExitsLeave}
use Rattle.fc_compact.specs.Copy.{ChangesHoles}
use Rattle.fc_compact.specs.Rounds.{Carrying, GathersZones}
use Rattle.fc_compact.proofs.rounds.gather_zones.Given as goal

abbrev pub invariant-loop-z : goal.invariant-loop-z
invariant-loop-z g l = record {
  form : SameForm g.D.Disk l.fn.disk l.disk;
  kept : StopsAndExitsLeave g.D.Disk l.fn.disk l.disk (ChangesHoles l.fn.map);
  carrying : ForSome (g.D.Disk.bytes l.disk) (Carrying l.fn.map l.map l.owners);
  gathers : GathersZones l.owners l.fn.map l.map l.from l.z l.changed.items;
  low : l.from ≤ l.z;
  still : l.changed.items ≡ [] → l.disk ≡ l.fn.disk;
  faults : g.D.Disk.faults l.fn.disk ≤ g.D.Disk.faults l.disk;
}
