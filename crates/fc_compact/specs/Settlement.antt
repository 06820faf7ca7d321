-- The steps that settle a zone.
use Rattle.std.specs.Prelude.{◌≡◌, ◌<◌, ◌≤◌, ◌⊎◌, ℕ, ◌+◌, ◌*◌, Bool, true, false, if◌then◌else◌, List, [], ◌∷◌, ◌++◌}
use Rattle.std.specs.List.{sum_by}
use Rattle.fc_record.specs.declared.Geometry.{Geometry}
use Rattle.fc_zone.specs.declared.Run.{Run}
use Rattle.fc_zone.specs.declared.RunKind.TheVariants.{Hole, Id}
use Rattle.fc_newmap.specs.Map.{Map, is_hole, runs_of}
use Rattle.fc_alloc.specs.declared.owner.Owner.{Owner}
use Rattle.fc_image.specs.effects.Settled.{passes_adjacent}
use Rattle.fc_compact.specs.declared.settlement.Step.{Step}
use Rattle.fc_compact.specs.declared.settlement.Stepped.{Stepped}
use Rattle.fc_compact.specs.Compaction.{is_done_by}
use Rattle.fc_compact.specs.Ready.{is_movable_by}
use Rattle.fc_compact.specs.Slides.{HasRuns}
use Rattle.fc_compact.specs.Steps.{Packs}
pub use Rattle.fc_image.specs.effects.Short.{one_if}

-- what is left to do between a run and the next
abbrev pub StepIs : Geometry → List Owner → Run → Run → Step → Type 0
StepIs g owners run next Step.Done = is_done_by g owners run next ≡ true
StepIs g owners run next Step.Merge = (run.kind ≡ next.kind) × ((id : ℕ) → run.kind ≡ Id id → is_movable_by owners id ≡ true)
StepIs g owners run next Step.Slide =
    (id : ℕ) × (run.kind ≡ Hole) × (next.kind ≡ Id id) × (is_movable_by owners id ≡ true) × ((next.len ≤ run.len) ⊎ (2 * g.min ≤ next.len))

-- Two runs of a zone, one after the other, are holes or of one identifier that may move.
pub record CanMergeRuns (m : Map) (owners : List Owner) (z : ℕ) (one two : Run) : Type 0 where
  pub front : List Run
  pub rest : List Run
  pub low : z < m.geometry.zones
  pub runs : HasRuns m z (front ++ one ∷ two ∷ rest)
  pub same : one.kind ≡ two.kind
  pub may : (id : ℕ) → one.kind ≡ Id id → is_movable_by owners id ≡ true

-- What falls at each step: the starts of runs that aren't holes, and how many runs there are.
abbrev pub run_weight : Run → ℕ
run_weight run = if is_hole run.kind then 1 else run.start + 1

abbrev pub zone_weight : List Run → ℕ
zone_weight runs = sum_by run_weight runs

-- What became of a run and the next, and the run from which to go on.
pub record Steps (owners : List Owner) (m m' : Map) (z : ℕ) (run next : Run) (s : Stepped) : Type 0 where
  pub packs : Packs owners m m'
  pub others : (y : ℕ) → (y ≡ z → ⊥) → runs_of m' y ≡ runs_of m y
  pub cut : (front rest : List Run) → HasRuns m z (front ++ run ∷ next ∷ rest)
      → (front' : List Run) × (HasRuns m' z (front' ++ s.run ∷ rest) × (s.changed ≡ false → front' ≡ front ++ run ∷ []))
  pub falls : zone_weight (runs_of m' z) + one_if s.changed ≤ zone_weight (runs_of m z)
  pub done : s.changed ≡ false → (m' ≡ m) × (s.run ≡ next) × (is_done_by m.geometry owners run next ≡ true)

-- The zone's runs have been passed once: if nothing has changed, nothing is left to do.
pub record Passes (owners : List Owner) (m m' : Map) (z : ℕ) (changed : Bool) : Type 0 where
  pub packs : Packs owners m m'
  pub others : (y : ℕ) → (y ≡ z → ⊥) → runs_of m' y ≡ runs_of m y
  pub falls : zone_weight (runs_of m' z) + one_if changed ≤ zone_weight (runs_of m z)
  pub same : changed ≡ false → m' ≡ m
  pub done : changed ≡ false → passes_adjacent (is_done_by m'.geometry owners) (runs_of m' z) ≡ true

-- the zone is settled
abbrev pub IsSettledZone : List Owner → Map → ℕ → Type 0
IsSettledZone owners m z = passes_adjacent (is_done_by m.geometry owners) (runs_of m z) ≡ true
