-- What the edits of one zone do to a map, and what they leave.
use Rattle.std.specs.Prelude.{◌≡◌, ℕ, ◌+◌, ◌-◌, List, ◌∷◌, ◌++◌}
use Rattle.fc_bytes.specs.Bits.{bits}
use Rattle.fc_zone.specs.declared.Run.{Run}
use Rattle.fc_zone.specs.declared.RunKind.{RunKind}
use Rattle.fc_zone.specs.Edits.{KeepsBytes, KeepsLinks, KeepsOutside, WritesLinks}
use Rattle.fc_newmap.specs.Map.{Map, runs_of, sector_of, shape}
use Rattle.fc_newmap.specs.NewMap.{IsNewMap}

-- ---- what stays

-- One zone has other bits, and those between its runs and FreeLink alone. Its links are as they were or written in full.
pub record IsEdit (old new : Map) (z : ℕ) : Type 0 where
  pub was : IsNewMap old
  pub map : IsNewMap new
  pub geometry : new.geometry ≡ old.geometry
  pub others : (y : ℕ) → (y ≡ z → ⊥) → sector_of new y ≡ sector_of old y
  pub outside : KeepsOutside (shape old.geometry z) (sector_of old z) (sector_of new z)
  pub bytes : KeepsBytes (shape old.geometry z) (sector_of old z) (sector_of new z)
  pub links : KeepsLinks (shape old.geometry z) (bits (sector_of old z)) (bits (sector_of new z)) (runs_of old z) (runs_of new z)

-- Any zones have other bits, and those between their runs and FreeLink alone.
pub record AreEdits (old new : Map) : Type 0 where
  pub was : IsNewMap old
  pub map : IsNewMap new
  pub geometry : new.geometry ≡ old.geometry
  pub outside : (z : ℕ) → KeepsOutside (shape old.geometry z) (sector_of old z) (sector_of new z)
  pub bytes : (z : ℕ) → KeepsBytes (shape old.geometry z) (sector_of old z) (sector_of new z)
  pub links : (z : ℕ) → KeepsLinks (shape old.geometry z) (bits (sector_of old z)) (bits (sector_of new z)) (runs_of old z) (runs_of new z)

-- Of the zone's links one edit writes those that name other places, in full, and no bit of any other.
abbrev pub WritesLinksOf : Map → Map → ℕ → Type 0
WritesLinksOf old new z = WritesLinks (shape old.geometry z) (bits (sector_of old z)) (bits (sector_of new z)) (runs_of old z) (runs_of new z)

-- The map has the runs that it had, in every zone.
pub record KeepsRuns (old new : Map) : Type 0 where
  pub was : IsNewMap old
  pub map : IsNewMap new
  pub geometry : new.geometry ≡ old.geometry
  pub runs : (z : ℕ) → runs_of new z ≡ runs_of old z

-- ---- what becomes of the zone's runs

-- the run that begins at `start` has another kind
abbrev pub RelabelsIn : Map → Map → ℕ → ℕ → RunKind → Type 0
RelabelsIn old new z start kind =
    (front rest : List Run) (run : Run) → runs_of old z ≡ front ++ run ∷ rest → run.start ≡ start → runs_of new z ≡ front ++ record run { kind = kind } ∷ rest

-- the run that begins at `start` is two of its kind, the first of `len` bits
abbrev pub SplitsIn : Map → Map → ℕ → ℕ → ℕ → Type 0
SplitsIn old new z start len =
    (front rest : List Run) (run : Run) → runs_of old z ≡ front ++ run ∷ rest → run.start ≡ start
    → runs_of new z ≡ front ++ record run { len = len } ∷ record run { start = run.start + len; len = run.len - len } ∷ rest

-- the run that begins at `start` is one with the next
abbrev pub MergesIn : Map → Map → ℕ → ℕ → Type 0
MergesIn old new z start =
    (front rest : List Run) (one two : Run) → runs_of old z ≡ front ++ one ∷ two ∷ rest → one.start ≡ start
    → runs_of new z ≡ front ++ record one { len = one.len + two.len } ∷ rest
