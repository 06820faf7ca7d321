-- A run that slides into the hole before it, piece by piece.
use Rattle.std.specs.Prelude.{◌≡◌, ◌<◌, ◌≤◌, ◌⊎◌, ℕ, ◌+◌, ◌-◌, ◌*◌, ◌^◌, ◌%◌, ◌==◌, true, List, ◌∷◌, ◌++◌, if◌then◌else◌}
use Rattle.fc_zone.specs.declared.Run.{Run}
use Rattle.fc_zone.specs.declared.RunKind.TheVariants.{Hole, Id}
use Rattle.fc_compact.specs.Ready.{is_movable_by}
use Rattle.fc_alloc.specs.declared.owner.Owner.{Owner}
use Rattle.fc_newmap.specs.Map.{Map, runs_of}
use Rattle.fc_compact.specs.declared.shift.Slide.{Slide}

-- a run of an identifier, and a hole
abbrev pub run_at : ℕ → ℕ → ℕ → Run
run_at start len id = record { start = start; len = len; kind = Id id }

abbrev pub hole_at : ℕ → ℕ → Run
hole_at start len = record { start = start; len = len; kind = Hole }

-- a run before others, if it has bits
abbrev pub part : ℕ → ℕ → ℕ → List Run → List Run
part start len id rest = if len == 0 then rest else run_at start len id ∷ rest

-- a run of which `done` bits have slid to `start`, over a hole of `hole` bits, and `left` bits have not
abbrev pub row : ℕ → ℕ → ℕ → ℕ → ℕ → List Run → List Run
row start id done hole left rest = part start done id (hole_at (start + done) hole ∷ part (start + done + hole) left id rest)

-- the zone has these runs
abbrev pub HasRuns : Map → ℕ → List Run → Type 0
HasRuns m z runs = runs_of m z ≡ runs

-- so many bits may be cut there: none, or as many as a run has
abbrev pub IsPart : ℕ → ℕ → Type 0
IsPart min len = (len ≡ 0) ⊎ (min ≤ len)

-- A hole begins there, and a run that may move and can slide into it follows.
pub record CanSlide (m : Map) (owners : List Owner) (zone start : ℕ) : Type 0 where
  pub front : List Run
  pub rest : List Run
  pub hole : Run
  pub run : Run
  pub id : ℕ
  pub named : hole.start ≡ start
  pub is_hole : hole.kind ≡ Hole
  pub is_run : run.kind ≡ Id id
  pub movable : is_movable_by owners id ≡ true
  pub runs : runs_of m zone ≡ front ++ hole ∷ run ∷ rest
  pub room : (run.len ≤ hole.len) ⊎ (2 * m.geometry.min ≤ run.len)

-- ---- a slide

-- the runs of a slide of which `done` bits have moved, before others
abbrev pub slid : Slide → ℕ → List Run → List Run
slid s done rest = row s.start s.id done s.hole (s.len - done) rest

-- A zone has a hole and the run that follows it, which may move, and can slide into it.
pub record IsSlide (m : Map) (owners : List Owner) (s : Slide) : Type 0 where
  pub zone : s.zone < m.geometry.zones
  pub movable : is_movable_by owners s.id ≡ true
  pub runs : (front rest : List Run) × HasRuns m s.zone (front ++ slid s 0 rest)
  pub fits : s.start + s.hole + s.len < 2 ^ 32
  pub len_whole : s.len % m.geometry.q ≡ 0
  pub hole_whole : s.hole % m.geometry.q ≡ 0
  pub len_room : m.geometry.min ≤ s.len
  pub hole_room : m.geometry.min ≤ s.hole
  pub room : (s.len ≤ s.hole) ⊎ (2 * m.geometry.min ≤ s.len)

-- `done` bits of a slide's run have moved, and n more can: what has moved then is a run, and so is what is left, if any is.
pub record CanShift (m : Map) (s : Slide) (done n : ℕ) : Type 0 where
  pub zone : s.zone < m.geometry.zones
  pub runs : (front rest : List Run) × HasRuns m s.zone (front ++ slid s done rest)
  pub fits : s.start + s.hole + s.len < 2 ^ 32
  pub some : 0 < n
  pub within : done + n ≤ s.len
  pub whole : (done + n) % m.geometry.q ≡ 0
  pub room : m.geometry.min ≤ done + n
  pub hole_whole : s.hole % m.geometry.q ≡ 0
  pub hole_room : m.geometry.min ≤ s.hole
  pub left : IsPart m.geometry.min (s.len - (done + n))

-- Of a slide of which `done` bits had moved, n more have, and no other run of the zone.
abbrev pub HasShifted : Map → Map → Slide → ℕ → ℕ → Type 0
HasShifted m m' s done n = (front rest : List Run) → HasRuns m s.zone (front ++ slid s done rest) → HasRuns m' s.zone (front ++ slid s (done + n) rest)
