use Rattle.std.proofs.Common.{◌≤◌, ◌+◌, ◌*◌, take}
use Rattle.fc_device.specs.Calls.{SameForm}
use Rattle.fc_format.specs.Passes.{KeepsBehind, LengthensFront}
use Rattle.fc_format.proofs.passes.write_bytes.Given as goal

abbrev pub invariant-loop-i : goal.invariant-loop-i
invariant-loop-i g l = record {
  form : SameForm g.D.Disk l.fn.disk l.disk;
  front : LengthensFront g.D.Disk l.fn.disk l.disk (256 * l.first) (take (256 * l.i) l.bytes);
  keeps : KeepsBehind g.D.Disk l.fn.disk l.disk (256 * (l.first + l.i));
  faults : g.D.Disk.faults l.fn.disk ≤ g.D.Disk.faults l.disk;
}
