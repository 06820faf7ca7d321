-- Where runs of some identifiers begin in a zone, and how many bits they have.
use Rattle.std.specs.Prelude.{◌≡◌, ℕ, false, if◌then◌else◌, List, ◌∷◌, ◌++◌, Option, sum_by}
use Rattle.fc_zone.specs.declared.Run.{Run}
use Rattle.fc_zone.specs.Cursor.{StandsBetween}
use Rattle.fc_zone.specs.Zone.{EndsInHole}
use Rattle.fc_newmap.specs.declared.walk.Walk.{Walk}
use Rattle.fc_newmap.specs.Map.{Map, runs_of, sector_of, shape}
use Rattle.fc_image.specs.effects.Steady.{has_id_that}
use Rattle.fc_plan.specs.Giving.{has_run_of, is_one_of}

-- the bits of a run, if it is of one of these identifiers
abbrev pub bits_if_of : List ℕ → Run → ℕ
bits_if_of ids run = if has_id_that (is_one_of ids) run.kind then run.len else 0

-- the bits of those of these runs that are of these identifiers
abbrev pub bits_of_ids : List ℕ → List Run → ℕ
bits_of_ids ids runs = sum_by (bits_if_of ids) runs

-- One of these runs begins at this place, and none before it is of one of these identifiers.
pub record BeginAt (ids : List ℕ) (runs : List Run) (start : ℕ) : Type 0 where
  pub front : List Run
  pub run : Run
  pub rest : List Run
  pub cut : runs ≡ front ++ run ∷ rest
  pub begins : run.start ≡ start
  pub none : has_run_of ids front ≡ false

-- The walk stands in zone z behind runs none of which is of one of these identifiers. `before` is the hole with which
-- they end, if the last of them is one.
pub record StandsAhead (m : Map) (ids : List ℕ) (z : ℕ) (walk : Walk) (before : Option Run) : Type 0 where
  pub done : List Run
  pub left : List Run
  pub cut : runs_of m z ≡ done ++ left
  pub none : has_run_of ids done ≡ false
  pub hole : EndsInHole done before
  pub shape : walk.shape ≡ shape m.geometry z
  pub stands : StandsBetween walk.shape (sector_of m z) done left walk.place
