-- What edits leave of a sector, and that some of them undo one another.
use Rattle.std.specs.Prelude.{◌≡◌, ℕ, List, length}
use Rattle.fc_bytes.specs.Bits.{bits}
use Rattle.fc_zone.specs.declared.ZoneShape.{ZoneShape}
use Rattle.fc_zone.specs.Reading.{runs_of}
use Rattle.fc_zone.specs.Edits.{IsWritten, KeepsBytes, KeepsOutside, WritesLinks}

-- what every edit says of the sector beside its runs
pub record LeavesRest (shape : ZoneShape) (old new : List ℕ) : Type 0 where
  pub size : length new ≡ length old
  pub links : WritesLinks shape (bits old) (bits new) (runs_of shape old) (runs_of shape new)
  pub outside : KeepsOutside shape old new
  pub bytes : KeepsBytes shape old new

-- the sector has its runs again, and all its bits if its links were written in full
pub record IsAgain (shape : ZoneShape) (old new : List ℕ) : Type 0 where
  pub runs : runs_of shape new ≡ runs_of shape old
  pub all_bits : IsWritten shape (bits old) (runs_of shape old) → bits new ≡ bits old
