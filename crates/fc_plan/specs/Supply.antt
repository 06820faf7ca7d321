-- What of a map is not spoken for: its holes, and its unused identifiers.
use Rattle.std.specs.Prelude.{◌≡◌, ◌≤◌, ◌⊎◌, ℕ, ◌+◌, ◌^◌, nat_le, List, [], ◌++◌, drop, None}
use Rattle.std.specs.List.{find}
use Rattle.fc_record.specs.declared.Geometry.{Geometry}
use Rattle.fc_newmap.specs.Map.{Map, ZoneRun, hole_runs}
use Rattle.fc_newmap.specs.NewMap.{IsOfRecord}
use Rattle.fc_image.specs.effects.Sharing.{new_ids}
use Rattle.fc_newmap.specs.Walk.{StandsBefore, bits_left, holes_in}
use Rattle.fc_plan.specs.Plan.{AreFreeRuns}
use Rattle.fc_plan.specs.declared.holes.Holes.{Holes}

-- holes, and identifiers that new objects may have
pub record Stock : Type 0 where
  pub geometry : Geometry
  pub holes : List ZoneRun
  pub ids : List ℕ

-- those of a map
abbrev pub stock_of : Map → Stock
stock_of m = record { geometry = m.geometry; holes = hole_runs m; ids = new_ids m }

-- ---- how it is kept

-- the holes of a map that were not met yet
abbrev pub holes_ahead : Map → Holes → List ZoneRun
holes_ahead m holes = drop holes.count (hole_runs m)

-- those that were met, without what was taken from them, and the others
abbrev pub all_holes : Map → Holes → List ZoneRun
all_holes m holes = holes.met.items ++ holes_ahead m holes

-- The walk stands before the holes that were not met yet.
pub record IsWalked (m : Map) (holes : Holes) : Type 0 where
  pub left : List ZoneRun
  pub stands : StandsBefore m left holes.walk
  pub ahead : holes_in left ≡ holes_ahead m holes
  pub few : holes.count + bits_left holes.walk ≤ 2 ^ 32

-- A hole that was met has all the bits, or none is left to be met.
abbrev pub IsMetFor : ℕ → List ZoneRun → List ZoneRun → Type 0
IsMetFor bits met ahead = (find (λ hole. nat_le bits hole.1.len) met ≡ None → ⊥) ⊎ (ahead ≡ [])

-- what a supply has
pub record IsStocked (m : Map) (holes : Holes) : Type 0 where
  pub of_record : IsOfRecord m.geometry
  pub free : AreFreeRuns m.geometry (all_holes m holes)
  pub walked : IsWalked m holes
