use Rattle.std.proofs.Common.{◌≤◌, ◌-◌, ◌*◌, replicate}
use Rattle.fc_device.specs.Calls.{SameForm}
use Rattle.fc_format.specs.Passes.{KeepsBehind, LengthensFront}
use Rattle.fc_format.proofs.passes.write_zeros.Given as goal

abbrev pub invariant-loop-n : goal.invariant-loop-n
invariant-loop-n g l = record {
  form : SameForm g.D.Disk l.fn.disk l.disk;
  front : LengthensFront g.D.Disk l.fn.disk l.disk (256 * l.first) (replicate (256 * (l.n - l.first)) 0);
  keeps : KeepsBehind g.D.Disk l.fn.disk l.disk (256 * l.n);
  faults : g.D.Disk.faults l.fn.disk ≤ g.D.Disk.faults l.disk;
}
