-- What the edits of a zone need, what they do to its list of runs, and what they write and leave.
use Rattle.std.specs.Prelude.{◌≡◌, ◌<◌, ◌≤◌, ◌⊎◌, ℕ, ◌+◌, ◌-◌, ◌*◌, ◌%◌, ◌^◌, List, ◌∷◌, ◌++◌, length, slice_set, slice_index, slice_range, Contains}
use Rattle.std.specs.List.{AllByRecursion}
use Rattle.fc_bytes.specs.Bits.{bits}
use Rattle.fc_bytes.specs.Checks.{zone_check}
use Rattle.fc_zone.specs.declared.ZoneShape.{ZoneShape}
use Rattle.fc_zone.specs.declared.Run.{Run}
use Rattle.fc_zone.specs.declared.RunKind.{RunKind}
use Rattle.fc_zone.specs.declared.RunKind.TheVariants.{Hole}
use Rattle.fc_zone.specs.Zone.{HasRun, IsOnSector, Zone, field_at, first_hole, hole_starts, next_hole}

-- ---- what is needed

-- the zone has a run that begins at this place
abbrev pub HasRunAt : ZoneShape → List ℕ → ℕ → Type 0
HasRunAt shape sector start = (run : Run) × ((run.start ≡ start) × HasRun shape sector run)

-- the zone has a hole that begins at this place
abbrev pub HasHoleAt : ZoneShape → List ℕ → ℕ → Type 0
HasHoleAt shape sector start = (run : Run) × ((run.start ≡ start) × (run.kind ≡ Hole) × HasRun shape sector run)

-- the run can be cut after `len` bits
pub record CanSplit (shape : ZoneShape) (run : Run) (len : ℕ) : Type 0 where
  pub whole : len % shape.q ≡ 0
  pub room : shape.min ≤ len
  pub rest_room : len + shape.min ≤ run.len

-- the zone has a run there that can be cut after `len` bits
abbrev pub HasRunToSplit : ZoneShape → List ℕ → ℕ → ℕ → Type 0
HasRunToSplit shape sector start len = (run : Run) × ((run.start ≡ start) × CanSplit shape run len × HasRun shape sector run)

-- the zone has two runs of one kind there, one after the other
abbrev pub HasRunsToMerge : ZoneShape → List ℕ → ℕ → Type 0
HasRunsToMerge shape sector start =
    (one two : Run) × (one.start ≡ start) × (one.kind ≡ two.kind)
    × ((front : List Run) × ((rest : List Run) × Zone shape sector (front ++ one ∷ two ∷ rest)))

-- the shape's bits lie in a sector of this length, and are long enough for one run
pub record CanBeBlank (sector : List ℕ) (shape : ZoneShape) : Type 0 where
  pub size : (length sector ≡ 256) ⊎ ((length sector ≡ 512) ⊎ (length sector ≡ 1024))
  pub header : 32 ≤ shape.first
  pub long : shape.first + shape.idlen < shape.end
  pub within : shape.end ≤ 8 * length sector
  pub begins : IsOnSector shape shape.first
  pub ends : IsOnSector shape shape.end

-- ---- what becomes of the runs

-- the run that begins at `start` has another kind
abbrev pub Relabels : ZoneShape → List ℕ → List ℕ → ℕ → RunKind → Type 0
Relabels shape old new start kind =
    (front rest : List Run) (run : Run) → Zone shape old (front ++ run ∷ rest) → run.start ≡ start → Zone shape new (front ++ record run { kind = kind } ∷ rest)

-- the run that begins at `start` is two of its kind, the first of `len` bits
abbrev pub Splits : ZoneShape → List ℕ → List ℕ → ℕ → ℕ → Type 0
Splits shape old new start len =
    (front rest : List Run) (run : Run) → Zone shape old (front ++ run ∷ rest) → run.start ≡ start
    → Zone shape new (front ++ record run { len = len } ∷ record run { start = start + len; len = run.len - len } ∷ rest)

-- the run that begins at `start` is one with the next
abbrev pub Merges : ZoneShape → List ℕ → List ℕ → ℕ → Type 0
Merges shape old new start =
    (front rest : List Run) (one two : Run) → Zone shape old (front ++ one ∷ two ∷ rest) → one.start ≡ start
    → Zone shape new (front ++ record one { len = one.len + two.len } ∷ rest)

-- all the zone's bits as one hole
abbrev pub whole_hole : ZoneShape → Run
whole_hole shape = record { start = shape.first; len = shape.end - shape.first; kind = Hole }

-- ---- what is written, and what stays

-- Every bit outside FreeLink and the zone's bits is as it was, ZoneCheck too: sealing is a call of its own.
abbrev pub KeepsOutside : ZoneShape → List ℕ → List ℕ → Type 0
KeepsOutside shape old new =
    (k : ℕ) → (k < 8) ⊎ (24 ≤ k) → (k < shape.first) ⊎ (shape.end ≤ k) → slice_index (bits new) k ≡ slice_index (bits old) k

-- So is every byte all of whose bits lie there.
abbrev pub KeepsBytes : ZoneShape → List ℕ → List ℕ → Type 0
KeepsBytes shape old new =
    (k : ℕ) → (k < 1) ⊎ (3 ≤ k) → (8 * k + 8 ≤ shape.first) ⊎ (shape.end ≤ 8 * k) → slice_index new k ≡ slice_index old k

-- FreeLink is as it was, or names another place and has its top bit
abbrev pub WritesTop : List ℕ → List ℕ → Type 0
WritesTop old new = (slice_range new 8 24 ≡ slice_range old 8 24) ⊎ ((first_hole new ≡ first_hole old → ⊥) × (slice_index new 23 ≡ 1))

-- the field of a hole is as it was, or the hole is new or names another place, and its link alone is its field
abbrev pub WritesLink : ZoneShape → List ℕ → List ℕ → List ℕ → ℕ → Type 0
WritesLink shape old new holes at =
    (Contains holes at × (field_at shape new at ≡ field_at shape old at))
    ⊎ ((Contains holes at → next_hole shape new at ≡ next_hole shape old at → ⊥) × (field_at shape new at < 2 ^ 15))

-- The links that an edit changes it writes in full: FreeLink with its top bit, and a hole's link alone as its field.
-- Links that name what they named keep all bits of their fields.
pub record WritesLinks (shape : ZoneShape) (old new : List ℕ) (before after : List Run) : Type 0 where
  pub free_link : WritesTop old new
  pub fields : AllByRecursion (WritesLink shape old new (hole_starts before)) (hole_starts after)

-- After some edits each link is as it was or written in full: FreeLink has the bits that it had, or its top bit, and a
-- hole has the field that it had as a hole, or its link alone.
pub record KeepsLinks (shape : ZoneShape) (old new : List ℕ) (before after : List Run) : Type 0 where
  pub free_link : (slice_range new 8 24 ≡ slice_range old 8 24) ⊎ (slice_index new 23 ≡ 1)
  pub fields : AllByRecursion (λ at. (Contains (hole_starts before) at × (field_at shape new at ≡ field_at shape old at)) ⊎ (field_at shape new at < 2 ^ 15)) (hole_starts after)

-- all links are written in full
pub record IsWritten (shape : ZoneShape) (bits : List ℕ) (runs : List Run) : Type 0 where
  pub top : slice_index bits 23 ≡ 1
  pub links : AllByRecursion (λ p. field_at shape bits p < 2 ^ 15) (hole_starts runs)

-- the sector with its right ZoneCheck
abbrev pub sealed : List ℕ → List ℕ
sealed sector = slice_set sector 0 (zone_check sector)
