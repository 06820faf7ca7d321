-- What one step of a new map does to its runs, by any list of plans, if identifiers that have runs get others by it.
use Rattle.std.specs.Prelude.{◌≡◌, ◌⊎◌, ℕ, true, false, List, map, find, is_none, Contains}
use Rattle.fc_newmap.specs.Map.{Map, ZoneRun, hole_runs, is_used}
use Rattle.fc_newmap.specs.NewMap.{IsNewMap}
use Rattle.fc_image.specs.effects.Placed.{stands_at}
use Rattle.fc_plan.specs.declared.plan.Part.{Part}
use Rattle.fc_plan.specs.declared.plan.Plan.{Plan}
use Rattle.fc_plan.specs.Giving.{is_one_of}
use Rattle.fc_plan.specs.Parts.{fronts}
use Rattle.fc_writing.specs.Steps.{CanTakeAll, HasMoved}
use Rattle.fc_edits.specs.NewNodes.{AreDistinct}
use Rattle.fc_edits.specs.NewPlaces.{IsSpaceChange, Taking}

-- what the plans take
abbrev pub taking_of : Plan → Taking
taking_of p = record { id = p.id; parts = fronts p.parts.items }

abbrev pub takings_of : List Plan → List Taking
takings_of plans = map taking_of plans

-- No two plans are of one identifier, and one that has runs gives these back. Of the parts that are taken those stay whose identifier goes
-- back.
pub record TakesAndGives (m : Map) (plans : List Plan) (gone : List ℕ) (kept : List Part) : Type 0 where
  pub can : CanTakeAll m.geometry (hole_runs m) plans
  pub once : AreDistinct (map (λ (p : Plan). p.id) plans)
  pub ids : (p : Plan) → Contains plans p → (is_used m p.id ≡ false) ⊎ (is_one_of gone p.id ≡ true)
  pub all_kept : (p : Plan) (q : ZoneRun) → Contains plans p → Contains (fronts p.parts.items) q → is_one_of gone p.id ≡ true → is_none (find (stands_at q) (fronts kept)) ≡ false
  pub kept_only : (q : ZoneRun) → Contains (fronts kept) q → (p : Plan) × Contains plans p × Contains (fronts p.parts.items) q

-- So the new map has the parts as runs of their identifiers, and the old runs of those that go back are holes.
abbrev pub SafeSpaceLaw : Type 0
SafeSpaceLaw = (m m' : Map) (plans : List Plan) (gone : List ℕ) (kept : List Part) → IsNewMap m → TakesAndGives m plans gone kept → HasMoved m m' plans gone kept
    → IsSpaceChange m m' (takings_of plans) gone
