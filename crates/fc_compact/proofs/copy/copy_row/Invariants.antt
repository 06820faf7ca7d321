use Rattle.std.proofs.Common.{◌-◌, ◌≤◌}
use Rattle.std.specs.Option.{ForSome}
use Rattle.fc_device.specs.Calls.{SameForm}
use Rattle.fc_compact.specs.Copy.{IsCopied, TearsRow}
use Rattle.fc_compact.proofs.copy.copy_row.Given as goal

abbrev pub invariant-loop-done : goal.invariant-loop-done
invariant-loop-done g l = record {
  form : SameForm g.D.Disk l.fn.disk l.disk;
  within : l.done ≤ l.count;
  tears : TearsRow g.D.Disk l.fn.disk l.disk l.to l.count;
  copied : ForSome (g.D.Disk.bytes l.disk) (IsCopied (g.D.Disk.sector_size l.fn.disk) l.from l.to l.done);
  faults : g.D.Disk.faults l.fn.disk ≤ g.D.Disk.faults l.disk;
}

abbrev pub decreases-loop-done : goal.decreases-loop-done
decreases-loop-done g l = l.count - l.done
