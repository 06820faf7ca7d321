-- Several moves that one commit makes current: copies in holes of a map, and the map by which they count.
use Rattle.std.specs.Prelude.{◌≡◌, ◌<◌, ◌≤◌, ◌⊎◌, ℕ, ◌+◌, ◌-◌, Bool, true, false, List, [], ◌∷◌, ◌++◌, map, if◌then◌else◌, All}
use Rattle.std.specs.List.{sum_by}
use Rattle.std.specs.List.Sorted.{IsStrictlyIncreasing}
use Rattle.fc_device.specs.Calls.{SameForm, StopsAndExitsLeave}
use Rattle.fc_device.specs.Sectors.{sector_at}
use Rattle.fc_device.specs.declared.disk.Disk.{Ghosts}
use Rattle.fc_zone.specs.declared.Run.{Run}
use Rattle.fc_zone.specs.declared.RunKind.TheVariants.{Hole, Id}
use Rattle.fc_newmap.specs.Edits.{IsEdit}
use Rattle.fc_newmap.specs.Map.{Map, id_runs, is_hole, runs_of, zone_numbers}
use Rattle.fc_newmap.specs.NewMap.{IsNewMap}
use Rattle.fc_alloc.specs.declared.owner.Owner.{Owner}
use Rattle.fc_image.specs.Layout.{Layout, hole_sectors, id_sectors, is_among}
use Rattle.fc_compact.specs.Compaction.{loose_sectors}
use Rattle.fc_compact.specs.declared.rounds.Front.{Front}
use Rattle.fc_compact.specs.declared.rounds.Gathered.{Gathered}
use Rattle.fc_compact.specs.Copy.{ChangesHoles}
use Rattle.fc_compact.specs.Joins.{EditsListed, ids_in}
use Rattle.fc_compact.specs.Ready.{is_movable_by}
use Rattle.fc_compact.specs.Settlement.{one_if, zone_weight}
use Rattle.fc_compact.specs.Slides.{HasRuns}
use Rattle.fc_compact.specs.Steps.{Packs, SamePart}

-- From m to w any number of movable identifiers move, the sector s to the sector f s, which has its bytes already: it is s, or one of w's
-- in a hole of m.
pub record Carrying (m w : Map) (owners : List Owner) (image : List ℕ) : Type 0 where
  pub f : ℕ → ℕ
  pub ids : (k : ℕ) → (extra : List ℕ) × (id_sectors w k ≡ map f (id_sectors m k) ++ extra)
  pub bytes : (s : ℕ) → is_among (hole_sectors (Layout.New m)) s ≡ false → sector_at m.geometry.sector image (f s) ≡ sector_at m.geometry.sector image s
  pub stays : (s : ℕ) → (f s ≡ s) ⊎ ((k : ℕ) × (is_among (hole_sectors (Layout.New m)) (f s) ≡ true) × (is_among (id_sectors w k) (f s) ≡ true))
  pub one : (s t : ℕ) → is_among (hole_sectors (Layout.New m)) s ≡ false → is_among (hole_sectors (Layout.New m)) t ≡ false → f s ≡ f t → s ≡ t
  pub rest : (s : ℕ) → is_among (loose_sectors m owners) s ≡ false → f s ≡ s

-- ---- the moves

-- the bits of a run that are a hole
abbrev pub fresh_of : Run → ℕ
fresh_of run = if is_hole run.kind then run.len else 0

-- The next run is one of an identifier that may move, and fits into the front of the hole before it.
pub record Fits (owners : List Owner) (hole next : Run) (fresh id : ℕ) : Type 0 where
  pub is_hole : hole.kind ≡ Hole
  pub is_run : next.kind ≡ Id id
  pub movable : is_movable_by owners id ≡ true
  pub room : next.len ≤ fresh

-- A run of an identifier follows a hole that is no shorter.
pub record CanDraw (m : Map) (z : ℕ) (hole run : Run) (id : ℕ) : Type 0 where
  pub front : List Run
  pub rest : List Run
  pub runs : HasRuns m z (front ++ hole ∷ run ∷ rest)
  pub is_hole : hole.kind ≡ Hole
  pub is_run : run.kind ≡ Id id
  pub some_id : 0 < id
  pub room : run.len ≤ hole.len

-- A hole and the run behind it have changed places.
pub record Drawn (m m' : Map) (z : ℕ) (hole run : Run) : Type 0 where
  pub edit : IsEdit m m' z
  pub runs : (front rest : List Run) → HasRuns m z (front ++ hole ∷ run ∷ rest)
      → HasRuns m' z (front ++ record run { start = hole.start } ∷ record hole { start = hole.start + run.len } ∷ rest)

-- The next run has moved up into the hole before it, of which less is fresh then, or nothing has changed.
pub record IsGathered (owners : List Owner) (m m' : Map) (z : ℕ) (run next : Run) (fresh : ℕ) (s : Front) : Type 0 where
  pub some : s.moved ≡ true
      → (id : ℕ) × Fits owners run next fresh id × Drawn m m' z run next × (s.run ≡ record run { start = run.start + next.len }) × (s.fresh ≡ fresh - next.len)
  pub none : s.moved ≡ false → (m' ≡ m) × (s.run ≡ next) × (s.fresh ≡ fresh_of next)

-- Movable runs of one zone have moved up, and nothing else has changed.
pub record Gathers (owners : List Owner) (m m' : Map) (z : ℕ) (any : Bool) : Type 0 where
  pub edit : IsEdit m m' z
  pub fixed : (id : ℕ) → is_movable_by owners id ≡ false → id_runs m' id ≡ id_runs m id
  pub parts : (id : ℕ) → SamePart (ids_in m id z) (ids_in m' id z)
  pub falls : zone_weight (runs_of m' z) + one_if any ≤ zone_weight (runs_of m z)
  pub same : any ≡ false → m' ≡ m

-- From m to w movable runs have moved, but none of zone z.
pub record Spares (m w : Map) (owners : List Owner) (z : ℕ) : Type 0 where
  pub was : IsNewMap m
  pub geometry : w.geometry ≡ m.geometry
  pub fixed : (id : ℕ) → is_movable_by owners id ≡ false → id_runs w id ≡ id_runs m id
  pub runs : runs_of w z ≡ runs_of m z

-- If a crash since some start and every exit left changes in the map's holes alone, so they do after this.
abbrev pub StaysInHoles : {D : Type 0} → Ghosts D → D → D → Map → Type 0
StaysInHoles {D = D} d old new m = (start : D) → SameForm d start old → StopsAndExitsLeave d start old (ChangesHoles m) → StopsAndExitsLeave d start new (ChangesHoles m)

-- Movable runs of one zone have moved up, and holes that touched are one.
pub record HasDrawn (owners : List Owner) (m m' : Map) (z : ℕ) (any : Bool) : Type 0 where
  pub packs : Packs owners m m'
  pub edit : IsEdit m m' z
  pub falls : zone_weight (runs_of m' z) + one_if any ≤ zone_weight (runs_of m z)
  pub same : any ≡ false → m' ≡ m

-- In a zone from `from` on and before `end` the weight of the runs has fallen.
pub record FallsIn (m m' : Map) (from end : ℕ) : Type 0 where
  pub zone : ℕ
  pub low : from ≤ zone
  pub high : zone < end
  pub falls : zone_weight (runs_of m' zone) + 1 ≤ zone_weight (runs_of m zone)

-- Movable runs of these zones have moved up, of which each is from `from` on and before `end`.
pub record GathersZones (owners : List Owner) (m m' : Map) (from end : ℕ) (zones : List ℕ) : Type 0 where
  pub packs : Packs owners m m'
  pub edits : EditsListed m m' zones
  pub rising : IsStrictlyIncreasing zones
  pub low : All (λ y. from ≤ y) zones
  pub high : All (λ y. y < end) zones
  pub less : (y : ℕ) → zone_weight (runs_of m' y) ≤ zone_weight (runs_of m y)
  pub falls : (zones ≡ [] → ⊥) → FallsIn m m' from end
  pub same : zones ≡ [] → m' ≡ m

-- So they have, and are committed.
pub record HasGathered (owners : List Owner) (m m' : Map) (from end : ℕ) (s : Gathered) : Type 0 where
  pub next : from < s.next
  pub packs : Packs owners m m'
  pub others : (y : ℕ) → (y < from) ⊎ (end ≤ y) → runs_of m' y ≡ runs_of m y
  pub less : (y : ℕ) → zone_weight (runs_of m' y) ≤ zone_weight (runs_of m y)
  pub falls : s.any ≡ true → FallsIn m m' from end
  pub same : s.any ≡ false → m' ≡ m

-- the weight of the runs of all zones
abbrev pub all_weight : Map → ℕ
all_weight m = sum_by (λ y. zone_weight (runs_of m y)) (zone_numbers m.geometry)
