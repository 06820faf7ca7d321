-- An index of a new map: the sectors of its runs by their identifiers.
use Rattle.std.specs.Prelude.{◌≡◌, ◌<◌, ℕ, ◌+◌, ◌^◌, Bool, ◌==◌, nat_le, nat_lt, true, false, if◌then◌else◌, List, [], ◌∷◌, map, filter, Option, Some, None, All}
use Rattle.std.specs.List.{flat_map}
use Rattle.std.specs.Global.{Vec}
use Rattle.std.specs.List.Sorted.{IsNonDecreasingBy}
use Rattle.fc_device.specs.declared.disk.Extent.{Extent}
use Rattle.fc_record.specs.declared.Geometry.{Geometry}
use Rattle.fc_zone.specs.declared.RunKind.{RunKind}
use Rattle.fc_zone.specs.declared.RunKind.TheVariants.{Hole, Id}
use Rattle.fc_newmap.specs.Map.{Map, ZoneRun, extent_of, home_zone, id_runs}
use Rattle.fc_space.specs.declared.index.IdRow.{IdRow}
use Rattle.fc_space.specs.declared.space.Space.{Space}
use Rattle.fc_space.specs.declared.space.Space.TheVariants.{OldMapped, NewMapped}

-- the rows of an identifier among these
abbrev pub rows_of : ℕ → List IdRow → List IdRow
rows_of id rows = filter (λ r. r.id == id) rows

-- where they lie
abbrev pub places_in : List IdRow → List Extent
places_in rows = map (λ r. r.place) rows

-- A row's sectors are numbers of 64 bits.
abbrev pub IsLow : IdRow → Type 0
IsLow r = r.place.first + r.place.sectors < 2 ^ 64

-- The rows are those of all runs with an identifier.
pub record IsIndex (m : Map) (rows : List IdRow) : Type 0 where
  -- Those of an identifier stand in the order of the search for its runs.
  pub each : (id : ℕ) → places_in (rows_of id rows) ≡ map (extent_of m.geometry) (id_runs m id)
  -- Identifiers rise.
  pub rising : IsNonDecreasingBy (λ (r : IdRow). r.id) rows
  pub low : All IsLow rows

-- If there is an index, it is that of a new map.
abbrev pub IsIndexOf : Option (Vec IdRow) → Space → Type 0
IsIndexOf None space = Unit {0}
IsIndexOf (Some rows) (OldMapped map) = Unit {0}
IsIndexOf (Some rows) (NewMapped map) = IsIndex map rows.items

-- ---- while an index is made

-- The search for an identifier comes to a zone before it turns from the last zone to the first; or it comes there afterwards.
abbrev pub is_met : Geometry → Bool → ℕ → ℕ → Bool
is_met g true id z = nat_le (home_zone g id) z
is_met g false id z = nat_lt z (home_zone g id)

-- the row of a run of this kind, if the search meets it then
abbrev pub row_of : Geometry → Bool → ZoneRun → RunKind → List IdRow
row_of g ahead p Hole = []
row_of g ahead p (Id id) = if is_met g ahead id p.0 then (record { id = id; place = extent_of g p }) ∷ [] else []

-- the rows of these runs
abbrev pub rows_with : Geometry → Bool → List ZoneRun → List IdRow
rows_with g ahead runs = flat_map (λ p. row_of g ahead p p.1.kind) runs
