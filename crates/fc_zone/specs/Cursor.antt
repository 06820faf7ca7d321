-- Where a walk over the runs of a zone stands.
use Rattle.std.specs.Prelude.{◌≡◌, ℕ, ◌+◌, Option, None, List, ◌++◌, slice_get, sum_by}
use Rattle.fc_zone.specs.declared.ZoneShape.{ZoneShape}
use Rattle.fc_zone.specs.declared.Run.{Run}
use Rattle.fc_zone.specs.declared.cursor.Cursor.{Cursor}
use Rattle.fc_zone.specs.Zone.{Spells, Chain, Zone, hole_starts}

-- from place `at` to the zone's end the bits are these runs, and from `hole` on the chain names their holes
pub record HasLeft (shape : ZoneShape) (bits : List ℕ) (at : ℕ) (hole : Option ℕ) (left : List Run) : Type 0 where
  pub spelled : Spells shape bits at left shape.end
  pub chain : Chain shape bits hole (hole_starts left) None

-- the place after these runs of a zone
abbrev pub place_after : ZoneShape → List Run → ℕ
place_after shape runs = shape.first + sum_by (λ run. run.len) runs

-- of the zone's runs the cursor has passed the first list, and the second is left
pub record StandsBetween (shape : ZoneShape) (sector : List ℕ) (done left : List Run) (cursor : Cursor) : Type 0 where
  pub zone : Zone shape sector (done ++ left)
  pub place : cursor.at ≡ place_after shape done
  pub hole : cursor.hole ≡ slice_get (hole_starts left) 0
