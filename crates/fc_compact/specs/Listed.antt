-- An identifier's runs, looked for in few zones.
use Rattle.std.specs.Prelude.{◌≡◌, ◌<◌, ℕ, ◌+◌, ◌-◌, ◌*◌, List, ◌++◌, length, drop, All}
use Rattle.std.specs.List.{flat_map}
use Rattle.fc_newmap.specs.Map.{Map, ZoneRun}
use Rattle.fc_newmap.specs.Walk.{StandsAt, bits_left}
use Rattle.fc_compact.specs.declared.listed.ListedRuns.{ListedRuns}
use Rattle.fc_compact.specs.Joins.{ids_in}

-- the identifier's runs in these zones
abbrev pub runs_listed : Map → ℕ → List ℕ → List ZoneRun
runs_listed m id zones = flat_map (ids_in m id) zones

-- These runs of the identifier are left before the walk.
pub record StandsIn (m : Map) (left : List ZoneRun) (walk : ListedRuns) : Type 0 where
  pub here : List ZoneRun
  pub cursor : StandsAt m here walk.cursor
  pub low : All (λ z. z < m.geometry.zones) walk.zones.items
  pub rest : left ≡ here ++ runs_listed m walk.id (drop walk.come walk.zones.items)

-- What falls at each step: the zones to come, and the bits that are left in the one in which the walk stands.
abbrev pub zones_left : ListedRuns → ℕ
zones_left walk = 8193 * (length walk.zones.items - walk.come) + bits_left walk.cursor.walk
