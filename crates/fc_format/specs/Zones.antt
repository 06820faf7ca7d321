-- Zones that are laid out afresh: runs of identifiers from the first bit on, and one hole after them.
use Rattle.std.specs.Prelude.{◌≡◌, ◌⊎◌, ◌<◌, ℕ, ◌+◌, ◌-◌, ◌^◌, List, [], ◌∷◌, length}
use Rattle.fc_bytes.specs.Bits.{bits}
use Rattle.fc_format.specs.Fresh.{f_record, plus_record}
use Rattle.fc_zone.specs.declared.ZoneShape.{ZoneShape}
use Rattle.fc_zone.specs.declared.Run.{Run}
use Rattle.fc_zone.specs.declared.RunKind.TheVariants.{Hole, Id}
use Rattle.fc_zone.specs.Zone.{Zone}
use Rattle.fc_zone.specs.Edits.{CanSplit, IsWritten, KeepsOutside}

-- the hole from this place to the zone's end
abbrev pub last_hole : ZoneShape → ℕ → Run
last_hole shape at = record { start = at; len = shape.end - at; kind = Hole }

-- runs of these lengths and identifiers from a place on, and one hole after them
abbrev pub owned_runs : ZoneShape → ℕ → List (ℕ × ℕ) → List Run
owned_runs shape at [] = last_hole shape at ∷ []
owned_runs shape at (owned ∷ rest) = record { start = at; len = owned.0; kind = Id owned.1 } ∷ owned_runs shape (at + owned.0) rest

-- such runs have room, and the hole after them too
abbrev pub CanOwn : ZoneShape → ℕ → List (ℕ × ℕ) → Type 0
CanOwn shape at [] = Unit {0}
CanOwn shape at (owned ∷ rest) = CanSplit shape (last_hole shape at) owned.0 × (0 < owned.1) × (owned.1 < 2 ^ shape.idlen) × CanOwn shape (at + owned.0) rest

-- The sector has these runs, with their links written in full, and is that at the start outside FreeLink and the zone's bits.
pub record IsLaid (shape : ZoneShape) (start sector : List ℕ) (runs : List Run) : Type 0 where
  pub zone : Zone shape sector runs
  pub written : IsWritten shape (bits sector) runs
  pub outside : KeepsOutside shape start sector
  pub size : length sector ≡ length start

-- the record of an F disc, or of an F+ disc
abbrev pub IsRecordOfF : List ℕ → Type 0
IsRecordOfF r = (r ≡ f_record) ⊎ (r ≡ plus_record f_record)
