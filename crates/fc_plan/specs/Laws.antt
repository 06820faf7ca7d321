-- Laws of taking space.
use Rattle.std.specs.Prelude.{◌⊎◌, All, false, ◌<◌, ◌%◌, ◌≡◌, ◌≤◌, ◌^◌, ℕ, ◌+◌, ◌*◌, not, nat_lt, List, [], ◌∷◌, length, Contains, AllPairs, None}
use Rattle.std.specs.Option.{option_map_or}
use Rattle.std.specs.List.Sorted.{IsPermutation}
use Rattle.fc_record.specs.declared.Geometry.{Geometry}
use Rattle.fc_newmap.specs.Map.{Map, ZoneRun, bits_in, hole_runs, is_used}
use Rattle.fc_newmap.specs.NewMap.{IsNewMap}
use Rattle.fc_model.specs.Command.{Command}
use Rattle.fc_image.specs.Layout.{Layout}
use Rattle.fc_image.specs.Objects.{objects_of}
use Rattle.fc_image.specs.Opening.{Opened}
use Rattle.fc_image.specs.effects.Placed.{IsPlan, IsTaken, holes_left}
use Rattle.fc_image.specs.effects.Sharing.{new_ids, units}
use Rattle.fc_image.specs.effects.Short.{growth_units, is_alone, moved_growth, object_units, one_if, short}
use Rattle.fc_plan.specs.Applied.{CanTakePlan}
use Rattle.fc_plan.specs.Parts.{fronts}
use Rattle.fc_plan.specs.Plan.{AreApart, AreParts}
use Rattle.fc_plan.specs.declared.plan.Plan.{Plan}
use Rattle.fc_plan.specs.Taking.{as_runs}

-- The runs that the parts become are a taking too, in whatever order they are met.
abbrev pub OrderLaw : Type 0
OrderLaw = (g : Geometry) (holes parts runs : List ZoneRun) (bits id : ℕ) → IsPermutation (as_runs id parts) runs → IsTaken g holes bits parts → IsTaken g holes bits runs

-- If all holes have the bits of two takings and twice the shortest run, the first leaves those of the second.
abbrev pub SecondLaw : Type 0
SecondLaw = (m : Map) (parts : List ZoneRun) (first second : ℕ) → IsNewMap m → IsTaken m.geometry (hole_runs m) first parts
    → first + second + 2 * m.geometry.min ≤ bits_in (hole_runs m) → second ≤ bits_in (holes_left (hole_runs m) parts)

-- What the parts leave is the same by the runs that they become, in whatever order they are met.
abbrev pub LeftLaw : Type 0
LeftLaw = (holes parts runs : List ZoneRun) (id : ℕ) → AreApart parts → IsPermutation (as_runs id parts) runs → holes_left holes parts ≡ holes_left holes runs

-- No two holes of a map begin at one place, so that no two parts of a plan do.
abbrev pub ApartLaw : Type 0
ApartLaw = (m : Map) (parts : List ZoneRun) → IsNewMap m → AreParts m.geometry (hole_runs m) parts → AreApart parts

-- If nothing is taken, all holes are left.
abbrev pub NothingLaw : Type 0
NothingLaw = (holes : List ZoneRun) → holes_left holes [] ≡ holes

-- The bits of some bytes can be planned: some whole sectors.
abbrev pub UnitsLaw : Type 0
UnitsLaw = (m : Map) (bytes : ℕ) → IsNewMap m → 0 < bytes → (0 < units m.geometry bytes) × (units m.geometry bytes % m.geometry.q ≡ 0)

-- ---- plans

-- The parts of a plan can be cut from the holes.
abbrev pub CutLaw : Type 0
CutLaw = (g : Geometry) (holes parts : List ZoneRun) (bits : ℕ) → IsPlan g holes bits parts → AreParts g holes parts

-- Identifiers of new objects can be written into a map's runs, and no two are the same.
pub record AreNewIds (m : Map) : Type 0 where
  pub some : (id : ℕ) → Contains (new_ids m) id → 3 ≤ id
  pub fit : (id : ℕ) → Contains (new_ids m) id → id < 2 ^ m.geometry.idlen
  pub rise : AllPairs (λ a b. a < b) (new_ids m)

abbrev pub NewIdsLaw : Type 0
NewIdsLaw = (m : Map) → AreNewIds m

-- A plan with one of a map's new identifiers can be carried out if its holes are there, and the identifier has no run.
abbrev pub CanLaw : Type 0
CanLaw = (m : Map) (holes : List ZoneRun) (bits : ℕ) (plan : Plan) → IsPlan m.geometry holes bits (fronts plan.parts.items) → Contains (new_ids m) plan.id
    → CanTakePlan m.geometry holes plan × (is_used m plan.id ≡ false)

-- The runs have no bit in common.
abbrev pub AreDisjoint : ZoneRun → ZoneRun → Type 0
AreDisjoint p q = (p.0 ≡ q.0 → ⊥) ⊎ ((p.1.start + p.1.len ≤ q.1.start) ⊎ (q.1.start + q.1.len ≤ p.1.start))

-- Two plans have no bit in common, and other identifiers.
pub record AreTwo (object dir : Plan) : Type 0 where
  pub parts : All (λ p. All (AreDisjoint p) (fronts dir.parts.items)) (fronts object.parts.items)
  pub ids : object.id ≡ dir.id → ⊥

-- So it is with a plan, and one that is made after it in what it left.
abbrev pub TwoLaw : Type 0
TwoLaw = (m : Map) (first second : ℕ) (object dir : Plan) (rest : List ℕ) → IsNewMap m → IsPlan m.geometry (hole_runs m) first (fronts object.parts.items)
    → IsPlan m.geometry (holes_left (hole_runs m) (fronts object.parts.items)) second (fronts dir.parts.items) → new_ids m ≡ object.id ∷ rest → Contains rest dir.id → AreTwo object dir

-- the new identifiers that a grown directory needs, when the object has its own
abbrev pub growth_ids : Opened → Command → ℕ
growth_ids v c = option_map_or (λ growth. one_if (not (is_alone (objects_of v.listings) growth.0))) (moved_growth v c) 0

-- A map has what the command needs: identifiers; bits for the object; and for a grown directory, in what the object's
-- parts leave, if it has any.
pub record Suffices (m : Map) (v : Opened) (c : Command) : Type 0 where
  pub ids : one_if (nat_lt 0 (object_units m v c)) + growth_ids v c ≤ length (new_ids m)
  pub object : object_units m v c ≤ bits_in (hole_runs m)
  pub growth : growth_units m v c ≤ bits_in (hole_runs m)
  pub both : (parts : List ZoneRun) → IsTaken m.geometry (hole_runs m) (object_units m v c) parts → 0 < object_units m v c
      → growth_units m v c ≤ bits_in (holes_left (hole_runs m) parts)

-- If a command is not short of space, a plan for the object is not refused, and then none for the grown directory.
abbrev pub ShortLaw : Type 0
ShortLaw = (m : Map) (v : Opened) (c : Command) → IsNewMap m → v.layout ≡ Layout.New m → short v c ≡ None → Suffices m v c
