-- Identifiers that are joined, one after another.
use Rattle.std.specs.Prelude.{◌≡◌, ◌<◌, ◌≤◌, ℕ, ◌+◌, ◌%◌, Bool, true, false, List, [], ◌∷◌, ◌++◌, if◌then◌else◌, filter, get_or, length, take, Contains, Option, MatchOption}
use Rattle.std.specs.List.{list_any, range_with_len, sum_by}
use Rattle.fc_zone.specs.declared.Run.{Run}
use Rattle.fc_newmap.specs.Map.{Map, ZoneRun, has_id, id_runs}
use Rattle.fc_newmap.specs.NewMap.{IsNewMap}
use Rattle.fc_alloc.specs.declared.owner.Owner.{Owner}
use Rattle.fc_image.specs.effects.Moves.{Joined}
use Rattle.fc_image.specs.effects.Settled.{can_join, zones_with}
use Rattle.fc_compact.specs.declared.candidates.Candidates.{Candidates}
use Rattle.fc_compact.specs.declared.survey.Survey.{Survey}
use Rattle.fc_compact.specs.Joins.{has_run_in}
use Rattle.fc_compact.specs.Longest.{AreLongest, IsLongest, zones_at_most}
use Rattle.fc_compact.specs.Ready.{is_movable_by}
use Rattle.fc_compact.specs.Settlement.{IsSettledZone, one_if}
use Rattle.fc_compact.specs.Steps.{Packs}

-- One identifier has been tried: its runs are joined, or nothing has changed and they can't be.
pub record Tries (owners : List Owner) (m m' : Map) (id : ℕ) (joined : Bool) : Type 0 where
  pub packs : Packs owners m m'
  pub same : joined ≡ false → m' ≡ m
  pub none : joined ≡ false → is_movable_by owners id ≡ true → can_join m id ≡ false
  pub fewer : joined ≡ true → (is_movable_by owners id ≡ true) × (length (id_runs m' id) < length (id_runs m id))

-- the runs of all owners' identifiers, which fall at each join
abbrev pub run_count : List Owner → Map → ℕ
run_count owners m = sum_by (λ o. length (id_runs m o.id)) owners

-- The identifiers of a list of owners have been tried.
pub record TriesAll (owners list : List Owner) (m m' : Map) (any : Bool) : Type 0 where
  pub packs : Packs owners m m'
  pub falls : run_count list m' + one_if any ≤ run_count list m
  pub same : any ≡ false → m' ≡ m
  pub none : any ≡ false → (o : Owner) → Contains list o → is_movable_by owners o.id ≡ true → can_join m' o.id ≡ false

-- all zones are settled
abbrev pub AreSettledZones : List Owner → Map → Type 0
AreSettledZones owners m = (z : ℕ) → z < m.geometry.zones → IsSettledZone owners m z

-- how many counts of runs a table has; identifiers whose remainders are equal share one
abbrev pub places : ℕ
places = 32768

-- The table counts these runs, up to two for each of its places.
abbrev pub AreSeen : List ℕ → List ZoneRun → Type 0
AreSeen seen runs = (id : ℕ) → get_or seen (id % places) 0 < 2 → length (filter (λ (p : ZoneRun). has_id id p.1.kind) runs) ≤ get_or seen (id % places) 0

-- An identifier for which fewer than two runs are counted has at most one.
abbrev pub SeesFew : List ℕ → Map → Type 0
SeesFew seen m = (id : ℕ) → get_or seen (id % places) 0 < 2 → length (id_runs m id) ≤ 1

-- ---- the zones in which identifiers have runs

-- each number is below all that follow
abbrev pub Rises : List ℕ → Type 0
Rises ids = (i j : ℕ) → i < j → j < length ids → get_or ids i 0 < get_or ids j 0

-- the place of an identifier in a list, or None if it isn't there
abbrev pub IsPlaced : List ℕ → ℕ → Option ℕ → Type 0
IsPlaced ids id place = MatchOption place ((k : ℕ) → k < length ids → get_or ids k 0 ≡ id → ⊥) (λ k. (k < length ids) × (get_or ids k 0 ≡ id))

-- The identifiers of these owners are there, unless fewer than two runs are counted for them.
abbrev pub AreTakenIn : List ℕ → List ℕ → List Owner → Type 0
AreTakenIn seen ids owners = (o : Owner) → Contains owners o → 2 ≤ get_or seen (o.id % places) 0 → Contains ids o.id

-- the zones that stand beside an identifier
abbrev pub zones_at : Candidates → ℕ → List ℕ
zones_at c k = (get_or c.zones.items k (record { items = [] })).items

-- Beside each identifier stand the first nine zones below z in which it has runs, and then zone z, if one of these runs of it is the identifier's.
pub record AreFoundIn (m : Map) (z : ℕ) (done : List Run) (c : Candidates) : Type 0 where
  pub size : length c.zones.items ≡ length c.ids.items
  pub zones : (k : ℕ) → k < length c.ids.items → zones_at c k
      ≡ take 9 (filter (has_run_in m (get_or c.ids.items k 0)) (range_with_len 0 z) ++ (if list_any (λ (run : Run). has_id (get_or c.ids.items k 0) run.kind) done then z ∷ [] else []))

-- Beside each identifier, which rise, stand the first nine zones in which it has runs.
pub record AreCandidates (m : Map) (c : Candidates) : Type 0 where
  pub rises : Rises c.ids.items
  pub size : length c.zones.items ≡ length c.ids.items
  pub zones : (k : ℕ) → k < length c.ids.items → zones_at c k ≡ take 9 (zones_with m (get_or c.ids.items k 0))

-- What a survey says of the map holds: of which identifiers fewer than two runs are counted, the zones of candidates, each zone's longest
-- hole, and the longest of all.
pub record IsSurvey (m : Map) (s : Survey) : Type 0 where
  pub size : length s.seen ≡ places
  pub few : SeesFew s.seen m
  pub candidates : AreCandidates m s.candidates
  pub lens_size : length s.lens ≡ zones_at_most
  pub lens : AreLongest m s.lens
  pub best : IsLongest m s.best

-- After the map m, of which a survey says what holds, the identifier's runs, which stood in few zones, were joined into a hole of this zone.
pub record HasJoined (m m' : Map) (s : Survey) (id zone : ℕ) : Type 0 where
  pub map : IsNewMap m
  pub survey : IsSurvey m s
  pub geometry : m'.geometry ≡ m.geometry
  pub few : length (zones_with m id) ≤ 8
  pub hole : Run
  pub joined : Joined m m' id (zone, hole)
