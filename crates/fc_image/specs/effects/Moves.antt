-- What single steps of compaction leave at their end.
use Rattle.std.specs.Prelude.{◌≡◌, ◌≢◌, ◌<◌, ◌≤◌, ℕ, ◌+◌, ◌-◌, ◌*◌, ◌%◌, Bool, true, false, not, ◌||◌, ◌&&◌, ◌==◌, nat_lt, List, [], ◌∷◌, ◌++◌, length, if◌then◌else◌, Contains, All}
use Rattle.std.specs.List.{list_any, list_all, flat_map}
use Rattle.fc_bytes.specs.Words.{bytes_at}
use Rattle.fc_device.specs.Sectors.{sector_at}
use Rattle.fc_zone.specs.declared.Run.{Run}
use Rattle.fc_zone.specs.declared.RunKind.{RunKind}
use Rattle.fc_zone.specs.declared.RunKind.TheVariants as kinds
use Rattle.fc_oldmap.specs.declared.Hole.{Hole}
use Rattle.fc_oldmap.specs.Holes.{hole_end, hole_sum}
use Rattle.fc_oldmap.specs.OldMap.{OldMapContent, IsOldMap}
use Rattle.fc_newmap.specs.Map.{Map, ZoneRun, runs_of, id_runs, hole_runs, bits_in, is_hole, has_id}
use Rattle.fc_image.specs.Layout.{hole_sectors_in, is_among}
use Rattle.fc_image.specs.declared.effects.Owned.{Owned}
use Rattle.fc_image.specs.effects.Placed.{front_of}
use Rattle.fc_image.specs.effects.Settled.{are_apart}

-- ---- slide

-- A run and the hole before it have changed places; nothing else has, and nothing is joined.
pub record Slid (m m' : Map) (zone start : ℕ) : Type 0 where
  pub front : List Run
  pub rest : List Run
  pub hole : Run
  pub run : Run
  pub named : hole.start ≡ start
  pub is_hole : hole.kind ≡ kinds.Hole
  pub was : runs_of m zone ≡ front ++ hole ∷ run ∷ rest
  pub is : runs_of m' zone ≡ front ++ record run { start = hole.start } ∷ record hole { start = hole.start + run.len } ∷ rest
  pub others : (z : ℕ) → z ≢ zone → runs_of m' z ≡ runs_of m z

-- ---- join

-- The hole: the one that begins in this zone and at this place.
abbrev pub is_the_hole : ZoneRun → ℕ → Run → Bool
is_the_hole hole z run = (hole.0 == z) && (hole.1.start == run.start)

-- a run as what is left of it, and what becomes of the rest of it, if there is a rest
abbrev pub cut_run : ℕ → RunKind → Run → List Run
cut_run len kind run =
    record run { len = len; kind = kind } ∷ (if nat_lt len run.len then record run { start = run.start + len; len = run.len - len } ∷ [] else [])

-- the runs that one of zone z becomes: the front of the hole is the identifier's, and a run that it had is a hole
abbrev pub rejoined : ℕ → ZoneRun → ℕ → ℕ → Run → List Run
rejoined len hole id z run =
    if is_the_hole hole z run then cut_run len (kinds.Id id) run
    else if has_id id run.kind then record run { kind = kinds.Hole } ∷ [] else run ∷ []

-- a run before others, as one with the next if both are holes
abbrev pub before_holes : Run → List Run → List Run
before_holes run [] = run ∷ []
before_holes run (next ∷ runs) =
    if is_hole run.kind && is_hole next.kind then record run { len = run.len + next.len } ∷ runs else run ∷ next ∷ runs

-- the runs of a zone, with holes that touch as one
abbrev pub with_holes_joined : List Run → List Run
with_holes_joined [] = []
with_holes_joined (run ∷ runs) = before_holes run (with_holes_joined runs)

-- The zone has the hole, or a run of the identifier.
abbrev pub is_joined_in : Map → ZoneRun → ℕ → ℕ → Bool
is_joined_in m hole id z = (hole.0 == z) || list_any (λ p. p.0 == z) (id_runs m id)

-- the runs of a zone when all runs of the identifier are joined at the front of the hole
abbrev pub runs_joined : Map → ZoneRun → ℕ → ℕ → List Run
runs_joined m hole id z =
    if is_joined_in m hole id z then with_holes_joined (flat_map (rejoined (front_of m.geometry (bits_in (id_runs m id)) hole).1.len hole id z) (runs_of m z))
    else runs_of m z

-- The identifier has one run, at the front of the hole, and its old runs are holes; other identifiers keep their runs. In the zones of
-- the hole and of the old runs no two holes touch afterwards, and other zones keep their runs.
pub record Joined (m m' : Map) (id : ℕ) (hole : ZoneRun) : Type 0 where
  pub was : Contains (hole_runs m) hole
  pub one : id_runs m' id ≡ (hole.0, record (front_of m.geometry (bits_in (id_runs m id)) hole).1 { kind = kinds.Id id }) ∷ []
  pub others : (other : ℕ) → other ≢ id → id_runs m' other ≡ id_runs m other
  pub zones : (z : ℕ) → z < m.geometry.zones → runs_of m' z ≡ runs_joined m hole id z

-- ---- squash

-- the same objects in their order, but for where they begin
abbrev pub SameButStarts : List Owned → List Owned → Type 0
SameButStarts [] [] = Unit {0}
SameButStarts (o ∷ was) (p ∷ now) = (p ≡ record o { start = p.start }) × SameButStarts was now
SameButStarts _ _ = ⊥

-- each object has its bytes at its new start
abbrev pub SameBodies : List ℕ → List ℕ → List Owned → List Owned → Type 0
SameBodies old new [] [] = Unit {0}
SameBodies old new (o ∷ was) (p ∷ now) =
    (bytes_at new (256 * p.start) (256 * p.len) ≡ bytes_at old (256 * o.start) (256 * o.len)) × SameBodies old new was now
SameBodies old new _ _ = ⊥

-- Each object begins at the end of the one before, or after it.
abbrev pub AreInOrder : ℕ → List Owned → Type 0
AreInOrder floor [] = Unit {0}
AreInOrder floor (o ∷ owned) = (floor ≤ o.start) × AreInOrder (o.start + o.len) owned

-- The sector lies in an object.
abbrev pub is_in_body : ℕ → List Owned → ℕ → Bool
is_in_body units owned s = list_any (λ o. is_among (hole_sectors_in units (record { start = o.start; len = o.len })) s) owned

-- The sector lies in a hole.
abbrev pub is_in_hole : ℕ → List Hole → ℕ → Bool
is_in_hole units holes s = list_any (λ h. is_among (hole_sectors_in units h) s) holes

-- Objects and holes of an old map after each object has slid down. The objects lie apart in their order, and apart from the holes;
-- together they take the same sectors as before. No hole is directly followed by an object or another hole, and as much is free
-- as before. No bytes are spoken of, so it holds of every disk.
pub record Squashed (space space' : OldMapContent) (was now : List Owned) : Type 0 where
  pub disc : (space'.disc_units ≡ space.disc_units) × (space'.sector_units ≡ space.sector_units)
  pub map : IsOldMap space'
  pub objects : SameButStarts was now
  pub whole : All (λ o. o.start % space.sector_units ≡ 0) now
  pub order : AreInOrder 0 now
  pub clear : (s : ℕ) → is_in_body space.sector_units now s ≡ true → is_in_hole space.sector_units space'.holes s ≡ false
  pub same : (s : ℕ) → (is_in_body space.sector_units now s || is_in_hole space.sector_units space'.holes s)
      ≡ (is_in_body space.sector_units was s || is_in_hole space.sector_units space.holes s)
  pub sum : hole_sum space'.holes ≡ hole_sum space.holes
  pub apart : are_apart space'.holes ≡ true
  pub settled : list_all (λ h. not (list_any (λ o. o.start == hole_end h) now)) space'.holes ≡ true

-- And of the bytes: each object has its bytes at its new start, sectors that lay in no object and in no hole keep theirs, and the
-- image keeps its length.
pub record SquashedBytes (old new : List ℕ) (space : OldMapContent) (was now : List Owned) : Type 0 where
  pub len : length new ≡ length old
  pub bodies : SameBodies old new was now
  pub others : (s : ℕ) → is_in_body space.sector_units was s ≡ false → is_in_hole space.sector_units space.holes s ≡ false
      → sector_at (256 * space.sector_units) new s ≡ sector_at (256 * space.sector_units) old s
