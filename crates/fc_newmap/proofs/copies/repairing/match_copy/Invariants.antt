use Rattle.std.proofs.Common.{◌≡◌, ◌≤◌, ◌+◌, ◌*◌, false}
use Rattle.fc_device.specs.Calls.{SameForm}
use Rattle.fc_newmap.specs.Passes.{zone_from}
use Rattle.fc_newmap.proofs.PassLemmas.{Passed, Written}
use Rattle.fc_newmap.proofs.copies.repairing.match_copy.Given as goal

abbrev pub invariant-loop-z : goal.invariant-loop-z
invariant-loop-z g l = record {
  form : SameForm g.D.Disk l.fn.disk l.disk;
  passed : Passed g.D.Disk l.fn.disk l.to 0 l.zones (λ was. zone_from (g.D.Disk.sector_size l.fn.disk) was l.from) l.disk;
  written : Written g.D.Disk l.fn.disk l.to 0 (λ was. zone_from (g.D.Disk.sector_size l.fn.disk) was l.from) l.disk l.z;
  quiet : l.wrote ≡ false → g.D.Disk.pending l.disk ≡ false;
  calls : g.D.Disk.read_calls l.disk ≤ g.D.Disk.read_calls l.fn.disk + 2 * l.z;
  faults : g.D.Disk.faults l.fn.disk ≤ g.D.Disk.faults l.disk;
}
