-- The longest holes of a map and of its zones.
use Rattle.std.specs.Prelude.{◌≡◌, ◌<◌, ℕ, List, [], filter, get_or, Contains, Option, MatchOption}
use Rattle.fc_newmap.specs.Map.{Map, ZoneRun, hole_runs, is_hole, longest, runs_of}
use Rattle.fc_newmap.specs.RunsLaw.{placed}

-- the holes of a zone
abbrev pub holes_of : Map → ℕ → List ZoneRun
holes_of m z = filter (λ p. is_hole p.1.kind) (placed z (runs_of m z))

-- the length of the longest of them, or 0 if it has none
abbrev pub longest_in : Map → ℕ → ℕ
longest_in m z = longest (holes_of m z)

-- how many zones a map can have at most, and one
abbrev pub zones_at_most : ℕ
zones_at_most = 65536

-- The lengths are those of each zone's longest hole.
abbrev pub AreLongest : Map → List ℕ → Type 0
AreLongest m lens = (z : ℕ) → z < m.geometry.zones → get_or lens z 0 ≡ longest_in m z

-- the longest hole of a map, with its zone, or None if there is no hole
abbrev pub IsLongest : Map → Option ZoneRun → Type 0
IsLongest m best = MatchOption best (hole_runs m ≡ []) (λ p. Contains (hole_runs m) p × (p.1.len ≡ longest (hole_runs m)))
