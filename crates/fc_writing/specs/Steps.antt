-- Steps of a new map: space that is taken and space that goes back, by one commit.
use Rattle.std.specs.Prelude.{◌≡◌, ◌<◌, ℕ, ◌||◌, Bool, true, false, nat_lt, List, [], ◌∷◌, length, filter, All, AllPairs, Contains, Option, Some, None, IfSome, IsSome}
use Rattle.std.specs.List.{list_any}
use Rattle.std.specs.List.Sorted.{IsStrictlyIncreasing}
use Rattle.fc_record.specs.declared.Geometry.{Geometry}
use Rattle.fc_record.specs.Record.{is_root_right, is_root_size_right}
use Rattle.fc_newmap.specs.Map.{Map, ZoneRun, all_runs, hole_runs, id_runs, runs_of, sector_of, with_root, with_zone}
use Rattle.fc_newmap.specs.NewMap.{IsNewMap, rooted}
use Rattle.fc_newmap.specs.Edits.{KeepsRuns}
use Rattle.fc_image.specs.effects.Placed.{BeginsBefore, holes_left}
use Rattle.fc_image.specs.effects.Steady.{holes_with, zone_holes}
use Rattle.fc_plan.specs.declared.plan.Part.{Part}
use Rattle.fc_plan.specs.declared.plan.Plan.{Plan}
use Rattle.fc_plan.specs.Applied.{CanTakePlan}
use Rattle.fc_plan.specs.Giving.{has_run_of, is_given, stays_given}
use Rattle.fc_plan.specs.Parts.{fronts, has_part}
use Rattle.fc_changes.specs.Space.{HasTaken, IsMapEdited}
use Rattle.fc_writing.specs.declared.ready.MapStep.{MapStep}
use Rattle.fc_writing.specs.declared.ready.MapStep.TheVariants as steps
use Rattle.fc_writing.specs.declared.ready.RootPlace.{RootPlace}
use Rattle.fc_writing.specs.declared.ready.SpaceStep.{SpaceStep}

-- ---- the record of the disc

-- the map with another root in its record, if there is one
abbrev pub rooted_map : Option RootPlace → Map → Map
rooted_map None m = m
rooted_map (Some p) m = with_zone m 0 (with_root (sector_of m 0) p.address p.len)

-- The record can have it. (`set_root` requires it.)
pub record CanRoot (m : Map) (p : RootPlace) : Type 0 where
  pub right : is_root_right (rooted m p.address p.len) ≡ true
  pub size_right : is_root_size_right (rooted m p.address p.len) ≡ true

-- ---- space

-- If these are the holes, the parts of each plan can be taken, one plan after another.
abbrev pub CanTakeAll : Geometry → List ZoneRun → List Plan → Type 0
CanTakeAll g holes [] = Unit {0}
CanTakeAll g holes (p ∷ plans) = CanTakePlan g holes p × CanTakeAll g (holes_left holes (fronts p.parts.items)) plans

-- The parts of each plan have become runs of its identifier, one plan after another.
abbrev pub AreTaken : Map → List Plan → Map → Type 0
AreTaken m [] n = n ≡ m
AreTaken m (p ∷ plans) n = (mid : Map) × IsNewMap mid × HasTaken m mid p.id (fronts p.parts.items) × AreTaken mid plans n

-- the zone has a part of a plan, or a run that goes back
abbrev pub is_changed : Map → List Plan → List ℕ → ℕ → Bool
is_changed m plans gone z = list_any (λ p. has_part (fronts p.parts.items) z) plans || has_run_of gone (runs_of m z)

-- The map m' has all that plans take, and of the identifiers that go back only the parts that are kept.
pub record HasMoved (m m' : Map) (plans : List Plan) (gone : List ℕ) (kept : List Part) : Type 0 where
  -- a map with the same runs; and that map with all that is taken, and nothing gone back
  pub first : Map
  pub taken : Map
  pub same_runs : KeepsRuns m first
  pub takes : AreTaken first plans taken
  pub is_map : IsNewMap taken
  pub geometry : taken.geometry ≡ m.geometry
  pub holes : (z : ℕ) → z < m.geometry.zones
      → zone_holes (hole_runs m') z ≡ holes_with (zone_holes (hole_runs taken) z) (zone_holes (filter (is_given gone (fronts kept)) (all_runs taken)) z)
  pub of_ids : (id : ℕ) → id_runs m' id ≡ filter (stays_given gone (fronts kept)) (id_runs taken id)

-- ---- steps

-- The step can be made of the map, and its zones are those that change, rising.
pub record CanEdit (m : Map) (s : SpaceStep) : Type 0 where
  pub plans : CanTakeAll m.geometry (hole_runs m) s.plans.items
  pub kept : AllPairs BeginsBefore (fronts s.kept.items)
  pub root : IfSome s.root (CanRoot m)
  pub rising : IsStrictlyIncreasing s.zones.items
  pub low : All (λ z. z < m.geometry.zones) s.zones.items
  pub all : (z : ℕ) → z < m.geometry.zones → (Contains s.zones.items z → ⊥) → is_changed m s.plans.items s.gone.items z ≡ false
  pub first : IsSome s.root → Contains s.zones.items 0

-- The map m' is m after the step: with another root, if there is one, and with other runs. No other byte has changed but FreeLink and
-- the checks.
pub record HasEdited (m m' : Map) (s : SpaceStep) : Type 0 where
  pub edited : IsMapEdited (rooted_map s.root m) m'
  pub moved : HasMoved m m' s.plans.items s.gone.items s.kept.items

abbrev pub CanStep : Map → MapStep → Type 0
CanStep m (steps.New s) = CanEdit m s
CanStep m (steps.Old space) = ⊥
CanStep m steps.Nothing = Unit {0}

abbrev pub HasStepped : Map → Map → MapStep → Type 0
HasStepped m m' (steps.New s) = HasEdited m m' s
HasStepped m m' (steps.Old space) = ⊥
HasStepped m m' steps.Nothing = m' ≡ m

-- The commit has more than nine zones, so that a crash inside it may leave neither map whole.
abbrev pub is_wide : MapStep → Bool
is_wide (steps.New s) = nat_lt 9 (length s.zones.items)
is_wide (steps.Old space) = false
is_wide steps.Nothing = false
