use Rattle.std.proofs.Common.{◌≡◌, ◌≤◌, ◌*◌, ◌++◌, List, ℕ, Some, length, drop}
use Rattle.std.specs.Option.{ForSome}
use Rattle.fc_device.specs.Calls.{SameForm}
use Rattle.fc_device.specs.Stops.{StillLeaves}
use Rattle.fc_objects.specs.Ahead.{ahead}
use Rattle.fc_objects.specs.Extents.{sectors_in}
use Rattle.fc_objects.specs.Written.{AreApart, HasParts, IsPartWritten, StopsTear}
use Rattle.fc_objects.proofs.writer.write_object.Given as goal

abbrev pub invariant-loop-row : goal.invariant-loop-row
invariant-loop-row g l = record {
  form : SameForm g.D.Disk l.fn.disk l.disk;
  faults : g.D.Disk.faults l.fn.disk ≤ g.D.Disk.faults l.disk;
  read_calls : g.D.Disk.read_calls l.disk ≡ g.D.Disk.read_calls l.fn.disk;
  still : StillLeaves g.D.Disk.moment g.D.Disk.left_since l.fn.disk l.disk;
  stops : StopsTear g.D.Disk l.fn.disk l.disk (sectors_in l.at) l.from;
  part : ForSome (g.D.Disk.bytes l.fn.disk) (λ was. (image : List ℕ) × (g.D.Disk.bytes l.disk ≡ Some image) × IsPartWritten (g.D.Disk.sector_size l.fn.disk) (sectors_in l.at) l.from was image);
  told : ForSome (g.D.Disk.bytes l.disk) (λ image. (was : List ℕ) × (g.D.Disk.bytes l.fn.disk ≡ Some was));
  walk : (done : List ℕ) × (sectors_in l.at ≡ done ++ ahead l.sectors) × (l.left ≡ drop (length done * g.D.Disk.sector_size l.fn.disk) l.from)
      × (AreApart (sectors_in l.at) → ForSome (g.D.Disk.bytes l.disk) (HasParts (g.D.Disk.sector_size l.fn.disk) done l.from));
}

abbrev pub decreases-loop-row : goal.decreases-loop-row
decreases-loop-row g l = length (ahead l.sectors)
