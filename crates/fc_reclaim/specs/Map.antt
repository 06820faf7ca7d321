-- What giving lost runs back does to a map, zone by zone.
use Rattle.std.specs.Prelude.{◌≡◌, ◌<◌, ℕ, ◌≤◌, Bool, List, filter}
use Rattle.fc_newmap.specs.Map.{Map, bits_in, runs_in, runs_of}
use Rattle.std.specs.List.{range_with_len}
use Rattle.fc_newmap.specs.NewMap.{IsNewMap}
use Rattle.fc_alloc.specs.declared.owner.Owner.{Owner}
use Rattle.fc_compact.specs.Compaction.{ZoneStays}
use Rattle.fc_reclaim.specs.Lost.{goes_back}
use Rattle.fc_reclaim.specs.Zone.{IsReclaimedIn}

-- In each zone below a bound lost runs have gone back, in the others all runs are as they were, and so is what is no run.
pub record IsReclaimedBelow (boot : Bool) (owners : List Owner) (m m' : Map) (bound : ℕ) : Type 0 where
  pub was : IsNewMap m
  pub map : IsNewMap m'
  pub geometry : m'.geometry ≡ m.geometry
  pub done : (z : ℕ) → z < bound → IsReclaimedIn (goes_back boot owners m.geometry) m m' z
  pub later : (z : ℕ) → bound ≤ z → runs_of m' z ≡ runs_of m z
  pub stays : (z : ℕ) → z < m.geometry.zones → ZoneStays m m' z

-- so it is in all zones
abbrev pub IsReclaimed : Bool → List Owner → Map → Map → Type 0
IsReclaimed boot owners m m' = IsReclaimedBelow boot owners m m' m.geometry.zones

-- the bits of the runs that go back in the zones below a bound
abbrev pub bits_below : Bool → List Owner → Map → ℕ → ℕ
bits_below boot owners m bound = bits_in (filter (goes_back boot owners m.geometry) (runs_in m (range_with_len 0 bound)))

-- and those of all zones
abbrev pub bits_back : Bool → List Owner → Map → ℕ
bits_back boot owners m = bits_below boot owners m m.geometry.zones

-- In one zone lost runs have gone back, in the others all runs are as they were, and so is what is no run.
pub record IsReclaimedAt (boot : Bool) (owners : List Owner) (m m' : Map) (z : ℕ) : Type 0 where
  pub was : IsNewMap m
  pub map : IsNewMap m'
  pub geometry : m'.geometry ≡ m.geometry
  pub done : IsReclaimedIn (goes_back boot owners m.geometry) m m' z
  pub others : (y : ℕ) → (y ≡ z → ⊥) → runs_of m' y ≡ runs_of m y
  pub stays : (y : ℕ) → y < m.geometry.zones → ZoneStays m m' y
