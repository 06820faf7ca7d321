-- The steps of a map that a change wants.
use Rattle.std.specs.Prelude.{◌≡◌, ℕ, ◌==◌, List, [], ◌∷◌, filter, if◌then◌else◌, Option, Some, None}
use Rattle.fc_newmap.specs.Map.{Map, zone_numbers}
use Rattle.fc_plan.specs.declared.plan.Part.{Part}
use Rattle.fc_plan.specs.declared.plan.Plan.{Plan}
use Rattle.fc_writing.specs.declared.ready.MapStep.{MapStep}
use Rattle.fc_writing.specs.declared.ready.MapStep.TheVariants as steps
use Rattle.fc_writing.specs.declared.ready.RootPlace.{RootPlace}
use Rattle.fc_writing.specs.declared.ready.SpaceStep.{SpaceStep}
use Rattle.fc_writing.specs.Steps.{is_changed}

abbrev pub with_zone_0 : List ℕ → List ℕ
with_zone_0 [] = 0 ∷ []
with_zone_0 (z ∷ zones) = if z == 0 then z ∷ zones else 0 ∷ z ∷ zones

-- the zones that change, rising; zone 0 among them if the record of the disc has another root
abbrev pub zones_of : Map → List Plan → List ℕ → Option RootPlace → List ℕ
zones_of m plans gone None = filter (is_changed m plans gone) (zone_numbers m.geometry)
zones_of m plans gone (Some root) = with_zone_0 (filter (is_changed m plans gone) (zone_numbers m.geometry))

-- There is nothing to do.
pub record IsNoStep (plans : List Plan) (gone : List ℕ) (root : Option RootPlace) : Type 0 where
  pub plans_are : plans ≡ []
  pub gone_are : gone ≡ []
  pub root_is : root ≡ None

-- There is something to do: it takes these plans' parts, and gives these identifiers' runs back but for the parts that are kept.
pub record IsSpaceStep (m : Map) (plans : List Plan) (gone : List ℕ) (kept : List Part) (root : Option RootPlace) (s : SpaceStep) : Type 0 where
  pub some : IsNoStep plans gone root → ⊥
  pub plans_are : s.plans.items ≡ plans
  pub gone_are : s.gone.items ≡ gone
  pub kept_are : s.kept.items ≡ kept
  pub root_is : s.root ≡ root
  pub zones : s.zones.items ≡ zones_of m plans gone root

-- Where there is nothing to do, nothing is done, and the map stays as it is.
abbrev pub IsStep : Map → List Plan → List ℕ → List Part → Option RootPlace → MapStep → Type 0
IsStep m plans gone kept root (steps.New s) = IsSpaceStep m plans gone kept root s
IsStep m plans gone kept root (steps.Old space) = ⊥
IsStep m plans gone kept root steps.Nothing = IsNoStep plans gone root
