-- Which zones change.
use Rattle.std.specs.Prelude.{ℕ, ◌&&◌, ◌||◌, ◌==◌, nat_lt, Bool, List, map}
use Rattle.std.specs.List.{flat_map}
use Rattle.fc_newmap.specs.Map.{Map}
use Rattle.fc_plan.specs.declared.plan.Part.{Part}
use Rattle.fc_plan.specs.declared.plan.Plan.{Plan}
use Rattle.fc_writing.specs.Steps.{is_changed}

-- the zones of the parts of plans
abbrev pub zones_of_plans : List Plan → List ℕ
zones_of_plans plans = flat_map (λ (p : Plan). map (λ (q : Part). q.zone) p.parts.items) plans

-- The zone has a part of a plan, or a run that goes back, or it is zone 0 and the record of the disc has another root.
abbrev pub is_turned : Map → List Plan → List ℕ → Bool → ℕ → Bool
is_turned m plans gone root z = nat_lt z m.geometry.zones && (is_changed m plans gone z || (root && (z == 0)))
