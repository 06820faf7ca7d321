use Rattle.std.proofs.Common.{◌≡◌, ◌≤◌}
use Rattle.fc_device.specs.Calls.{SameForm}
use Rattle.fc_newmap.specs.Map.{sector_of}
use Rattle.fc_newmap.proofs.PassLemmas.{Passed, Each}
use Rattle.fc_newmap.proofs.copies.committing.write_zones.Given as goal

abbrev pub invariant-loop-z : goal.invariant-loop-z
invariant-loop-z g l = record {
  form : SameForm g.D.Disk l.fn.disk l.disk;
  passed : Passed g.D.Disk l.fn.disk l.start 0 l.map.geometry.zones (λ was. sector_of l.map) l.disk;
  written : Each g.D.Disk l.fn.disk l.start (λ was. sector_of l.map) l.changed l.disk l.z-index;
  calls : g.D.Disk.read_calls l.disk ≡ g.D.Disk.read_calls l.fn.disk;
  faults : g.D.Disk.faults l.fn.disk ≤ g.D.Disk.faults l.disk;
}
