use Rattle.std.proofs.Common.{◌≡◌, ◌≤◌, ◌+◌, ◌++◌, List, ℕ, length}
use Rattle.std.specs.Option.{ForSome}
use Rattle.fc_device.specs.Calls.{SameForm, StopsAndExitsLeave}
use Rattle.fc_device.specs.Stops.{StillLeaves}
use Rattle.fc_objects.specs.Ahead.{ahead}
use Rattle.fc_objects.specs.Copied.{AreFirstCopied, IsPartCopied}
use Rattle.fc_objects.specs.Extents.{sectors_in}
use Rattle.fc_objects.specs.Written.{AreApart}
use Rattle.fc_objects.proofs.copier.copy_sectors.Given as goal

abbrev pub invariant-loop-here : goal.invariant-loop-here
invariant-loop-here g l = record {
  form : SameForm g.D.Disk l.fn.disk l.disk;
  faults : g.D.Disk.faults l.fn.disk ≤ g.D.Disk.faults l.disk;
  still : StillLeaves g.D.Disk.moment g.D.Disk.left_since l.fn.disk l.disk;
  kept : StopsAndExitsLeave g.D.Disk l.fn.disk l.disk (IsPartCopied (g.D.Disk.sector_size l.fn.disk) (sectors_in l.from) (sectors_in l.to));
  walk : (done gone : List ℕ) × (sectors_in l.from ≡ done ++ ahead l.source) × (sectors_in l.to ≡ gone ++ ahead l.target) × (length gone ≡ length done)
      × (g.D.Disk.read_calls l.disk ≤ g.D.Disk.read_calls l.fn.disk + length done)
      × (AreApart (sectors_in l.to)
      → ForSome (g.D.Disk.bytes l.fn.disk) (λ was. ForSome (g.D.Disk.bytes l.disk) (AreFirstCopied (g.D.Disk.sector_size l.fn.disk) (length done) (sectors_in l.from) (sectors_in l.to) was)));
}

abbrev pub decreases-loop-here : goal.decreases-loop-here
decreases-loop-here g l = length (ahead l.source)
