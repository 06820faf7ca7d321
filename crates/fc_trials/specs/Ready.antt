-- When a command may be asked for.
use Rattle.std.specs.Prelude.{IsFalse, IsTrue}
use Rattle.fc_device.specs.declared.disk.Disk.{Ghosts}
use Rattle.fc_holdings.specs.declared.holdings.Holdings.{Holdings}
use Rattle.fc_holdings.specs.Holdings.{Stands}

-- The disk is attached, nothing is pending, and the holdings stand for it.
pub record IsReady {D : Type 0} (d : Ghosts D) (h : Holdings) (disk : D) : Type 0 where
  pub attached : IsTrue (d.attached disk)
  pub settled : IsFalse (d.pending disk)
  pub stands : Stands d h disk
