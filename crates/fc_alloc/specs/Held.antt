-- What is kept beside a list of owners of their directories: the owners that each holds.
use Rattle.std.specs.Prelude.{ℕ, Bool, List, IsPermutation, IsTrue, filter}
use Rattle.fc_alloc.specs.declared.owner.Owner.{Owner}
use Rattle.fc_alloc.specs.declared.held.Held.{Held}
use Rattle.fc_alloc.specs.Lists.{row_at}
use Rattle.fc_alloc.specs.Owners.{AreInOrder, is_held}

-- These are the owners that the directory holds, in order once the table is settled.
pub record IsRow (dir : ℕ) (settled : Bool) (owners row : List Owner) : Type 0 where
  pub same : IsPermutation (filter (is_held dir) owners) row
  pub sorted : IsTrue settled → AreInOrder row

-- unless it was given up, the table has each directory's owners
abbrev pub AreHeld : List Owner → Held → Type 0
AreHeld owners held = IsTrue held.complete → (dir : ℕ) → IsRow dir held.settled owners (row_at held.rows.items dir)
