-- What calls that only read leave of a disk.
use Rattle.std.specs.Prelude.{◌≡◌, ◌≤◌}
use Rattle.fc_device.specs.declared.disk.Disk.{Ghosts}
use Rattle.fc_device.specs.Calls.{StopsAsBefore}

-- The bytes stay, and what a crash may leave; the count of faults doesn't fall. The disk may have been attached and shaped.
pub record IsUnwritten {D : Type 0} (d : Ghosts D) (old new : D) : Type 0 where
  pub bytes_stay : d.bytes new ≡ d.bytes old
  pub stops : StopsAsBefore d old new
  pub faults : d.faults old ≤ d.faults new
