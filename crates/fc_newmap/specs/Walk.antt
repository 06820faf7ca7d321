-- Where a walk over the runs of a map stands.
use Rattle.std.specs.Prelude.{◌≡◌, ◌<◌, ◌≤◌, ℕ, zero, suc, ◌+◌, ◌-◌, ◌*◌, ◌==◌, if◌then◌else◌, Option, List, [], ◌∷◌, ◌++◌, filter}
use Rattle.std.specs.Option.{MatchOption}
use Rattle.fc_record.specs.declared.Geometry.{Geometry}
use Rattle.fc_record.specs.Record.{first_bit, end_bit}
use Rattle.fc_zone.specs.declared.Run.{Run}
use Rattle.fc_zone.specs.Cursor.{StandsBetween}
use Rattle.fc_newmap.specs.declared.walk.Walk.{Walk}
use Rattle.fc_newmap.specs.declared.runs.RunCursor.{RunCursor}
use Rattle.fc_newmap.specs.Map.{Map, ZoneRun, has_id, is_hole, runs_in, runs_of, sector_of, shape}
use Rattle.fc_newmap.specs.RunsLaw.{placed}

-- the zone above zone z, or zone 0 above the last
abbrev pub zone_after : Geometry → ℕ → ℕ
zone_after g z = if z + 1 == g.zones then 0 else z + 1

-- the zone n zones above zone z, and round
abbrev pub zone_up : Geometry → ℕ → ℕ → ℕ
zone_up g z zero = z
zone_up g z (suc n) = zone_up g (zone_after g z) n

-- n zones from zone z upwards, and round
abbrev pub zones_from : Geometry → ℕ → ℕ → List ℕ
zones_from g z zero = []
zones_from g z (suc n) = z ∷ zones_from g (zone_after g z) n

-- These runs are left before the walk: the rest of its zone's, and those of the zones to come.
pub record StandsBefore (m : Map) (left : List ZoneRun) (walk : Walk) : Type 0 where
  pub done : List Run
  pub here : List Run
  pub low : walk.shape.zone < m.geometry.zones
  pub shape : walk.shape ≡ shape m.geometry walk.shape.zone
  pub place : StandsBetween walk.shape (sector_of m walk.shape.zone) done here walk.place
  pub rest : left ≡ placed walk.shape.zone here ++ runs_in m (zones_from m.geometry (zone_after m.geometry walk.shape.zone) walk.more)

-- The run lies in the bits of its zone.
pub record IsInZone (g : Geometry) (p : ZoneRun) : Type 0 where
  pub zone : p.0 < g.zones
  pub from : first_bit p.0 ≤ p.1.start
  pub to : p.1.start + p.1.len ≤ end_bit g p.0

-- the holes among some runs
abbrev pub holes_in : List ZoneRun → List ZoneRun
holes_in runs = filter (λ p. is_hole p.1.kind) runs

-- the runs of the zones that come after a walk's zone
abbrev pub runs_after : Map → Walk → List ZoneRun
runs_after m walk = runs_in m (zones_from m.geometry (zone_after m.geometry walk.shape.zone) walk.more)

-- The walk has gone past the next hole of its zone, or, if none is left there, past all runs of the zone.
abbrev pub HasPassedHole : Map → List ZoneRun → Walk → Walk → Option Run → Type 0
HasPassedHole m left old new result =
    MatchOption result ((holes_in left ≡ holes_in (runs_after m old)) × StandsBefore m (runs_after m old) new)
    (λ run. (rest : List ZoneRun) × ((holes_in left ≡ (old.shape.zone, run) ∷ holes_in rest) × StandsBefore m rest new))

-- at least the bits of all runs that are left before the walk
abbrev pub bits_left : Walk → ℕ
bits_left walk = 8192 * walk.more + (walk.shape.end - walk.place.at)

-- These runs of the cursor's identifier are left before it.
pub record StandsAt (m : Map) (left : List ZoneRun) (cursor : RunCursor) : Type 0 where
  pub all : List ZoneRun
  pub walk : StandsBefore m all cursor.walk
  pub of_id : left ≡ filter (λ p. has_id cursor.id p.1.kind) all

-- The walk stands before all runs of the identifier in zone z and in `more` zones after it.
abbrev pub StandsBeforeFirst : Map → ℕ → ℕ → ℕ → Walk → Type 0
StandsBeforeFirst m id z more walk =
    (left : List ZoneRun) × (StandsBefore m left walk × (filter (λ p. has_id id p.1.kind) left
    ≡ filter (λ p. has_id id p.1.kind) (placed z (runs_of m z) ++ runs_in m (zones_from m.geometry (zone_after m.geometry z) more))))

-- so many zones come after zone z in a search that begins at zone `home`
abbrev pub IsBehind : Geometry → ℕ → ℕ → ℕ → Type 0
IsBehind g home z more = (home ≤ z → more + (z - home) + 1 ≡ g.zones) × (z < home → more + z + 1 ≡ home)
