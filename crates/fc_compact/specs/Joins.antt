-- Runs that are joined into one.
use Rattle.std.specs.Prelude.{◌≡◌, ◌<◌, ◌≤◌, ℕ, ◌+◌, ◌^◌, ◌%◌, ◌==◌, List, ◌∷◌, ◌++◌, filter, map, length, slice_index, if◌then◌else◌, All, Contains, Bool, ◌||◌, ◌&&◌, true, false}
use Rattle.std.specs.List.Sorted.{IsStrictlyIncreasing}
use Rattle.std.specs.List.{list_any}
use Rattle.fc_device.specs.Sectors.{sector_at}
use Rattle.fc_zone.specs.declared.Run.{Run}
use Rattle.fc_zone.specs.declared.RunKind.TheVariants.{Hole}
use Rattle.fc_newmap.specs.Edits.{AreEdits}
use Rattle.fc_newmap.specs.Map.{Map, ZoneRun, bits_in, has_id, hole_runs, id_runs, is_hole, runs_of, sector_of, zone_numbers}
use Rattle.fc_newmap.specs.RunsLaw.{placed}
use Rattle.fc_alloc.specs.declared.owner.Owner.{Owner}
use Rattle.fc_image.specs.effects.Moves.{with_holes_joined}
use Rattle.fc_image.specs.effects.Settled.{zones_with}
use Rattle.fc_compact.specs.declared.joins.JoinedRun.{JoinedRun}
use Rattle.fc_compact.specs.Ready.{is_movable_by}
use Rattle.fc_compact.specs.Slides.{HasRuns, IsPart, hole_at, run_at}
pub use Rattle.fc_device.specs.Numbers.{is_listed}

-- From one sector on stand the bytes of these sectors, in their order.
abbrev pub ArePut : ℕ → ℕ → List ℕ → List ℕ → Type 0
ArePut size to sectors image = (i : ℕ) → i < length sectors → sector_at size image (to + i) ≡ sector_at size image (slice_index sectors i)

-- the run as a hole, if it is one of the identifier
abbrev pub freed : ℕ → Run → Run
freed id run = if has_id id run.kind then record run { kind = Hole } else run

abbrev pub all_freed : ℕ → List Run → List Run
all_freed id runs = map (freed id) runs

-- a hole before others, if it has bits
abbrev pub hole_part : ℕ → ℕ → List Run → List Run
hole_part start len rest = if len == 0 then rest else hole_at start len ∷ rest

-- an identifier's runs in a zone
abbrev pub ids_in : Map → ℕ → ℕ → List ZoneRun
ids_in m id z = filter (λ p. has_id id p.1.kind) (placed z (runs_of m z))

-- the runs of a zone, changed by f if it is one of these zones
abbrev pub changed_runs : (List Run → List Run) → List ℕ → ℕ → List Run → List Run
changed_runs f zones z runs = if is_listed zones z then f runs else runs

-- Only the zones of a list have other bytes, between their runs.
pub record EditsListed (m m' : Map) (zones : List ℕ) : Type 0 where
  pub edits : AreEdits m m'
  pub others : (z : ℕ) → is_listed zones z ≡ false → sector_of m' z ≡ sector_of m z

-- the zone has this run, between others
abbrev pub HasBetween : Map → ℕ → Run → Type 0
HasBetween m z run = (front rest : List Run) × HasRuns m z (front ++ run ∷ rest)

-- The zone has a run of the identifier.
abbrev pub has_run_in : Map → ℕ → ℕ → Bool
has_run_in m id z = list_any (λ (run : Run). has_id id run.kind) (runs_of m z)

-- the zones that a join into a hole of this zone changes
abbrev pub join_zones : Map → ℕ → ℕ → List ℕ
join_zones m id zone = filter (λ z. (z == zone) || has_run_in m id z) (zone_numbers m.geometry)

-- All runs of the identifier stand in these zones, which rise.
pub record HoldsRuns (m : Map) (id : ℕ) (zones : List ℕ) : Type 0 where
  pub test : ℕ → Bool
  pub are : zones ≡ filter test (zone_numbers m.geometry)
  pub all : (z : ℕ) → has_run_in m id z ≡ true → test z ≡ true

-- two holes
abbrev pub are_holes : Run → Run → Bool
are_holes one two = is_hole one.kind && is_hole two.kind

-- two runs as one
abbrev pub joined : Run → Run → Run
joined one two = record one { len = one.len + two.len }

-- a run before others, if it doesn't become one hole with the next
abbrev pub passed : Run → Run → List Run → List Run
passed run next runs = if are_holes run next then runs else run ∷ runs

-- the hole that a run and the next become, if both are holes, and else the next
abbrev pub hole_or_next : Run → Run → Run
hole_or_next run next = if are_holes run next then joined run next else next

-- A hole begins there that has room for all runs of an identifier that may move, which stand in few zones.
pub record CanJoin (m : Map) (owners : List Owner) (id zone start : ℕ) : Type 0 where
  pub movable : is_movable_by owners id ≡ true
  pub some : 0 < length (id_runs m id)
  pub few : length (zones_with m id) ≤ 8
  pub hole : Run
  pub there : Contains (hole_runs m) (zone, hole)
  pub named : hole.start ≡ start
  pub room : bits_in (id_runs m id) ≤ hole.len

-- A join has what a map asks of it: the identifier may move, the new run is one, and what is left of the hole is one too, if it has bits.
pub record IsJoin (m : Map) (owners : List Owner) (join : JoinedRun) : Type 0 where
  pub zone : join.zone < m.geometry.zones
  pub movable : is_movable_by owners join.id ≡ true
  pub some_id : 0 < join.id
  pub id_fits : join.id < 2 ^ m.geometry.idlen
  pub whole : join.len % m.geometry.q ≡ 0
  pub room : m.geometry.min ≤ join.len
  pub left : IsPart m.geometry.min join.left
  pub enough : bits_in (id_runs m join.id) ≤ join.len
  pub hole : HasBetween m join.zone (hole_at join.start (join.len + join.left))

-- They are the zones that a join changes, in their order: those of the identifier's runs and that of the hole.
pub record AreJoinZones (m : Map) (join : JoinedRun) (zones : List ℕ) : Type 0 where
  pub rising : IsStrictlyIncreasing zones
  pub low : All (λ y. y < m.geometry.zones) zones
  pub listed : (y : ℕ) → y < m.geometry.zones → is_listed zones y ≡ ((y == join.zone) || has_run_in m join.id y)
  pub holds : HoldsRuns m join.id zones

-- In its zone the new run stands at the front of the hole, the other runs of the identifier are holes, and holes that touch are one.
abbrev pub TakesFront : Map → Map → JoinedRun → Type 0
TakesFront m m' join = (front rest : List Run) → HasRuns m join.zone (front ++ hole_at join.start (join.len + join.left) ∷ rest)
    → HasRuns m' join.zone (with_holes_joined (all_freed join.id front ++ run_at join.start join.len join.id ∷ hole_part (join.start + join.len) join.left (all_freed join.id rest)))
