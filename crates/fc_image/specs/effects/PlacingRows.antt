-- Space that is taken on a disc with sectors of 512 bytes and 256 bytes a bit, worked out.
use Rattle.std.specs.Prelude.{◌≡◌, ℕ, List, [], ◌∷◌}
use Rattle.fc_record.specs.declared.Geometry.{Geometry}
use Rattle.fc_record.specs.Rows.{f}
use Rattle.fc_zone.specs.declared.RunKind.TheVariants.{Hole}
use Rattle.fc_newmap.specs.Map.{ZoneRun}
use Rattle.fc_image.specs.effects.Placed.{IsPlan, IsTaken, front_of}
use Rattle.fc_image.specs.effects.Sharing.{units}

-- two bits are a sector, and a run has at least 16
abbrev pub narrow : Geometry
narrow = record f { sector = 512; bit_bytes = 256; q = 2; min = 16; share = 512 }

-- a hole in zone 1
abbrev pub hole_at : ℕ → ℕ → ZoneRun
hole_at start len = (1, record { start = start; len = len; kind = Hole })

-- two holes of 18 bits
abbrev pub two : List ZoneRun
two = hole_at 32 18 ∷ hole_at 96 18 ∷ []

-- holes of 16, 16 and 64 bits
abbrev pub three : List ZoneRun
three = hole_at 32 16 ∷ hole_at 96 16 ∷ hole_at 160 64 ∷ []

-- needs, and what they take
pub record PlacingRows : Type 0 where
  pub needs : units narrow 5120 ≡ 20
  pub least : units narrow 1 ≡ 16
  -- a rest of 2 bits would be shorter than a run
  pub whole : front_of narrow 16 (hole_at 32 18) ≡ hole_at 32 18
  pub both : IsTaken narrow two 20 two
  -- the long hole and one of the others
  pub long_and_one : IsTaken narrow three 70 (hole_at 160 64 ∷ hole_at 32 16 ∷ [])
  -- a plan, and four takings that are none: a part shorter than a run, half a sector too much, one hole twice, and falling parts
  pub planned : IsPlan narrow two 20 two
  pub short_part : IsPlan narrow two 20 (hole_at 32 18 ∷ hole_at 96 2 ∷ []) → ⊥
  pub half_sector : IsPlan narrow three 16 (hole_at 160 17 ∷ []) → ⊥
  pub twice_is_taken : IsTaken narrow two 20 (hole_at 32 18 ∷ hole_at 32 18 ∷ [])
  pub twice : IsPlan narrow two 20 (hole_at 32 18 ∷ hole_at 32 18 ∷ []) → ⊥
  pub falling : IsPlan narrow two 20 (hole_at 96 18 ∷ hole_at 32 18 ∷ []) → ⊥
