-- Parts of plans as the fronts of holes.
use Rattle.std.specs.Prelude.{◌≡◌, ℕ, ◌==◌, ◌||◌, ◌&&◌, nat_lt, Bool, false, List, map}
use Rattle.std.specs.List.{list_any}
use Rattle.fc_zone.specs.declared.RunKind.TheVariants.{Hole}
use Rattle.fc_newmap.specs.Map.{Map, ZoneRun, sector_of}
use Rattle.fc_plan.specs.declared.plan.Part.{Part}

-- a part as the front of a hole
abbrev pub front_at : Part → ZoneRun
front_at part = (part.zone, record { start = part.start; len = part.len; kind = Hole })

abbrev pub fronts : List Part → List ZoneRun
fronts parts = map front_at parts

-- where the front of a hole begins, and its bits
abbrev pub part_of : ZoneRun → Part
part_of p = record { zone = p.0; start = p.1.start; len = p.1.len }

-- the part begins before this place of zone z
abbrev pub begins_before : ℕ → ℕ → Part → Bool
begins_before z start part = nat_lt part.zone z || ((part.zone == z) && nat_lt part.start start)

-- the part begins at this place of zone z
abbrev pub begins_at : ℕ → ℕ → Part → Bool
begins_at z start part = (part.zone == z) && (part.start == start)

-- ---- which zones change

-- a part lies in the zone
abbrev pub has_part : List ZoneRun → ℕ → Bool
has_part parts z = list_any (λ p. p.0 == z) parts

-- Zones that fail the test keep their sectors, byte for byte.
abbrev pub KeepsZones : (ℕ → Bool) → Map → Map → Type 0
KeepsZones changes old new = (z : ℕ) → changes z ≡ false → sector_of new z ≡ sector_of old z
