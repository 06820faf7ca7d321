use Rattle.std.proofs.Common.{◌≤◌, drop}
use Rattle.fc_device.specs.Calls.{SameForm}
use Rattle.fc_format.proofs.PassLemmas.{HasLaid}
use Rattle.fc_format.proofs.passes.write_parts.Given as goal

abbrev pub invariant-loop-part : goal.invariant-loop-part
invariant-loop-part g l = record {
  form : SameForm g.D.Disk l.fn.disk l.disk;
  laid : HasLaid g.D.Disk l.fn.disk l.disk l.at (drop l.part-index l.parts) l.parts l.end;
  faults : g.D.Disk.faults l.fn.disk ≤ g.D.Disk.faults l.disk;
}
