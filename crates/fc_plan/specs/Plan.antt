-- What parts have that can be cut from holes, and holes that lie as those of a map do.
use Rattle.std.specs.Prelude.{◌≡◌, ◌<◌, ◌≤◌, ◌⊎◌, ℕ, ◌+◌, List, [], ◌∷◌, ◌++◌, length, take, slice_index_or, if◌then◌else◌, Contains, All, Option, Some, None}
use Rattle.std.specs.List.{count_by, AllByRecursion}
use Rattle.fc_record.specs.declared.Geometry.{Geometry}
use Rattle.fc_newmap.specs.Map.{ZoneRun, bits_in}
use Rattle.fc_image.specs.effects.Placed.{HasRunLength, IsFront, IsTaken, left_behind, stands_at}

-- at each place at most one begins
abbrev pub AreApart : List ZoneRun → Type 0
AreApart runs = (place : ZoneRun) → count_by (stands_at place) runs ≤ 1

-- the part is the front of one of the holes
abbrev pub IsFrontOfOne : Geometry → List ZoneRun → ZoneRun → Type 0
IsFrontOfOne g holes part = (hole : ZoneRun) × Contains holes hole × IsFront g hole part

-- The parts can be cut from the holes: each is the front of a hole, no hole is used twice, and each is long enough for a
-- run of its own.
pub record AreParts (g : Geometry) (holes parts : List ZoneRun) : Type 0 where
  pub fronts : All (IsFrontOfOne g holes) parts
  pub once : (place : ZoneRun) → count_by (stands_at place) parts ≤ count_by (stands_at place) holes
  pub long : All (HasRunLength g) parts

-- The parts are a taking of so many bits from as few holes as can be, and can be cut from the holes.
pub record IsChoice (g : Geometry) (holes : List ZoneRun) (bits : ℕ) (parts : List ZoneRun) : Type 0 where
  pub taken : IsTaken g holes bits parts
  pub cut : AreParts g holes parts

-- the holes before this place are taken whole, and so many bits are then still missing, which the hole at it has
pub record IsLast (holes : List ZoneRun) (bits place missing : ℕ) : Type 0 where
  pub within : place < length holes
  pub some : 0 < missing
  pub before : bits_in (take place holes) + missing ≡ bits
  pub has : (d : ZoneRun) → missing ≤ (slice_index_or holes place d).1.len

-- ---- holes that rise

-- The first ends before the second begins, or where it begins.
abbrev pub EndsBefore : ZoneRun → ZoneRun → Type 0
EndsBefore p q = (p.0 < q.0) ⊎ ((p.0 ≡ q.0) × (p.1.start + p.1.len ≤ q.1.start))

-- each ends before those after it begin
abbrev pub AreInOrder : List ZoneRun → Type 0
AreInOrder [] = Unit {0}
AreInOrder (p ∷ rest) = AllByRecursion (EndsBefore p) rest × AreInOrder rest

-- a hole of a map of this geometry
pub record IsFreeRun (g : Geometry) (hole : ZoneRun) : Type 0 where
  pub long : HasRunLength g hole
  pub low : hole.1.start + hole.1.len ≤ 8192

-- holes as those of a map: they rise, and lie apart
pub record AreFreeRuns (g : Geometry) (holes : List ZoneRun) : Type 0 where
  pub each : AllByRecursion (IsFreeRun g) holes
  pub order : AreInOrder holes

-- what parts that rise leave of holes that rise, both met in one walk
abbrev pub left_of_both : List ZoneRun → List ZoneRun → List ZoneRun
left_of_both [] parts = []
left_of_both (hole ∷ holes) [] = hole ∷ holes
left_of_both (hole ∷ holes) (part ∷ parts) =
    if stands_at hole part then left_behind hole (Some part) ++ left_of_both holes parts else hole ∷ left_of_both holes (part ∷ parts)

-- the first part, if it stands at the hole
abbrev pub first_at : ZoneRun → List ZoneRun → Option ZoneRun
first_at hole [] = None
first_at hole (part ∷ parts) = if stands_at hole part then Some part else None

-- the parts after the first, if that stands at the hole
abbrev pub rest_at : ZoneRun → List ZoneRun → List ZoneRun
rest_at hole [] = []
rest_at hole (part ∷ parts) = if stands_at hole part then parts else part ∷ parts
