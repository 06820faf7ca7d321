-- The plan of a directory that grows, and where it then lies.
use Rattle.std.specs.Prelude.{◌≡◌, ℕ, true, List, [], ◌∷◌, ◌++◌, Contains, drop, take, Option, Some, None}
use Rattle.std.specs.Int.{div_ceil}
use Rattle.fc_image.specs.Layout.{low_of, low_start}
use Rattle.fc_newmap.specs.Map.{Map}
use Rattle.fc_objects.specs.Extents.{sectors_in}
use Rattle.fc_plan.specs.declared.plan.Plan.{Plan}
use Rattle.fc_change.specs.declared.job.Growth.{Growth}
use Rattle.fc_change.specs.declared.spaces.GrownPlace.{GrownPlace}
use Rattle.fc_change.specs.GrownSpace.{plan_sectors}

-- That of its identifier, or the last if it gets a new one.
abbrev pub IsGrownPlan : Option Growth → List Plan → ℕ → Plan → Type 0
IsGrownPlan None plans id plan = Contains plans plan × (plan.id ≡ id)
IsGrownPlan (Some out) plans id plan = (before : List Plan) × (plans ≡ before ++ plan ∷ [])

-- There is one.
abbrev pub HasGrownPlan : Option Growth → List Plan → ℕ → Type 0
HasGrownPlan out plans id = (plan : Plan) × IsGrownPlan out plans id plan

-- With this address it has the sectors of its plan from where it begins in its identifier.
pub record IsPlacedIn (m : Map) (g : Growth) (address : ℕ) (plan : Plan) (p : GrownPlace) : Type 0 where
  pub directory : p.directory ≡ record { node = g.node; address = address; len = g.len }
  pub moves : p.moves ≡ true
  pub sectors : sectors_in p.extents.items ≡ take (div_ceil g.len m.geometry.sector) (drop (low_start m (low_of address)) (plan_sectors m.geometry plan))
