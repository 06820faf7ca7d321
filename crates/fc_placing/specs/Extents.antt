-- The sectors of an object in new space, before the map has its runs.
use Rattle.std.specs.Prelude.{◌≡◌, ◌<◌, ℕ, ◌+◌, ◌*◌, Bool, List, [], filter, if◌then◌else◌, Some}
use Rattle.fc_record.specs.declared.Geometry.{Geometry}
use Rattle.fc_newmap.specs.Map.{Map, ZoneRun, run_sectors}
use Rattle.fc_image.specs.Layout.{Layout, sectors_at}
use Rattle.fc_space.specs.Index.{is_met}
use Rattle.fc_plan.specs.declared.plan.Plan.{Plan}
use Rattle.fc_plan.specs.Parts.{fronts}
use Rattle.fc_changes.specs.Space.{HasTaken}

-- Once the plan's parts are runs of its identifier, these are the sectors of the object that begins there.
abbrev pub IsOwnPlace : Map → ℕ → Plan → List ℕ → Type 0
IsOwnPlace m bytes plan sectors = (m' : Map) (low : ℕ) → HasTaken m m' plan.id (fronts plan.parts.items) → low < 2
    → sectors_at (Layout.New m') (256 * plan.id + low) bytes ≡ Some sectors

-- the parts that the search for an identifier's runs meets before it turns from the last zone to the first, or afterwards
abbrev pub parts_met : Geometry → ℕ → Bool → List ZoneRun → List ZoneRun
parts_met g id ahead parts = filter (λ p. is_met g ahead id p.0) parts

-- the sectors of a part that is met
abbrev pub sectors_if : Geometry → Bool → ZoneRun → List ℕ
sectors_if g met p = if met then run_sectors g p else []
