-- What becomes of the runs of a zone when lost ones go back.
use Rattle.std.specs.Prelude.{◌≡◌, ◌<◌, ℕ, ◌&&◌, Bool, not, List, [], ◌∷◌, ◌++◌, filter, slice_get, if◌then◌else◌, Option, Some, None}
use Rattle.std.specs.Option.{unwrap_or}
use Rattle.fc_zone.specs.declared.Run.{Run}
use Rattle.fc_zone.specs.declared.RunKind.TheVariants.{Hole}
use Rattle.fc_newmap.specs.Map.{Map, ZoneRun, is_hole, runs_of}
use Rattle.fc_newmap.specs.RunsLaw.{placed}
use Rattle.fc_image.specs.safe.Reclaim.{all_absorbed}
use Rattle.fc_plan.specs.Giving.{as_spaces, freed, joined, spaces_in}
use Rattle.fc_reclaim.specs.Lost.{is_used_run}

-- the runs that go back, and those that stay
abbrev pub going : (ZoneRun → Bool) → ℕ → List Run → List ZoneRun
going goes z runs = filter goes (placed z runs)

abbrev pub staying : (ZoneRun → Bool) → ℕ → List Run → List ZoneRun
staying goes z runs = filter (λ p. is_used_run p && not (goes p)) (placed z runs)

-- The runs of the zone that pass the test have become holes, each joined with all holes that touch it or each other next to
-- it; all other runs are as they were.
pub record IsReclaimedIn (goes : ZoneRun → Bool) (m m' : Map) (z : ℕ) : Type 0 where
  pub holes : spaces_in (runs_of m' z) ≡ all_absorbed (spaces_in (runs_of m z)) (as_spaces (going goes z (runs_of m z)))
  pub rest : filter is_used_run (placed z (runs_of m' z)) ≡ staying goes z (runs_of m z)

-- ---- holes that touch

-- a hole with all holes that follow it, one after another
abbrev pub joined_all : Run → List Run → Run
joined_all hole [] = hole
joined_all hole (next ∷ rest) = if is_hole next.kind then joined_all (joined hole next) rest else hole

-- what is left after them
abbrev pub behind_holes : List Run → List Run
behind_holes [] = []
behind_holes (next ∷ rest) = if is_hole next.kind then behind_holes rest else next ∷ rest

-- what is left of the runs ahead, if those that touch are joined with a run that goes back
abbrev pub left_after : Bool → List Run → List Run
left_after goes rest = if goes then behind_holes rest else rest

-- the runs are holes
abbrev pub AreHoles : List Run → Type 0
AreHoles [] = Unit {0}
AreHoles (run ∷ runs) = (run.kind ≡ Hole) × AreHoles runs

-- the hole that a run becomes, which follows some holes and is followed by others
abbrev pub given : List Run → Run → List Run → Run
given [] run rest = joined_all (freed run) rest
given (first ∷ links) run rest = joined_all first (links ++ freed run ∷ rest)

-- the first of the holes that touch each other up to the end of a run, by that of those up to its start
abbrev pub chain_after : Option Run → Run → Option Run
chain_after chain run = if is_hole run.kind then Some (unwrap_or chain run) else None

-- The zone has this run after some holes, and the first of them is the chain's.
pub record FollowsChain (m : Map) (z : ℕ) (chain : Option Run) (run : Run) : Type 0 where
  pub front : List Run
  pub links : List Run
  pub rest : List Run
  pub low : z < m.geometry.zones
  pub runs : runs_of m z ≡ front ++ (links ++ run ∷ rest)
  pub first : chain ≡ slice_get links 0
  pub holes : AreHoles links
