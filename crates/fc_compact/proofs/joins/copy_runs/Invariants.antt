use Rattle.std.proofs.Common.{◌≡◌, ◌≤◌, ◌+◌, ◌++◌, List, length}
use Rattle.std.specs.Option.{ForSome}
use Rattle.fc_device.specs.Calls.{SameForm, StopsAndExitsLeave}
use Rattle.fc_newmap.specs.Map.{ZoneRun, id_runs, sectors_of}
use Rattle.fc_compact.specs.Listed.{StandsIn, zones_left}
use Rattle.fc_compact.specs.Joins.{ArePut}
use Rattle.fc_compact.specs.Copy.{ChangesHoles}
use Rattle.fc_compact.proofs.joins.copy_runs.Given as goal

abbrev pub invariant-loop-z : goal.invariant-loop-z
invariant-loop-z g l = record {
  form : SameForm g.D.Disk l.fn.disk l.disk;
  kept : StopsAndExitsLeave g.D.Disk l.fn.disk l.disk (ChangesHoles l.map);
  passed : List ZoneRun;
  left : List ZoneRun;
  cut : id_runs l.map l.id ≡ passed ++ left;
  stands : StandsIn l.map left l.runs;
  place : l.at ≡ l.to + length (sectors_of l.map.geometry passed);
  put : ForSome (g.D.Disk.bytes l.disk) (ArePut l.map.geometry.sector l.to (sectors_of l.map.geometry passed));
  faults : g.D.Disk.faults l.fn.disk ≤ g.D.Disk.faults l.disk;
}

abbrev pub decreases-loop-z : goal.decreases-loop-z
decreases-loop-z g l = zones_left l.runs
