-- What the needs of a job are met by.
use Rattle.std.specs.Prelude.{◌≡◌, ◌<◌, ℕ, List, Option, Some, None}
use Rattle.fc_newmap.specs.Map.{Map}
use Rattle.fc_tree.specs.Parts.{Parts}
use Rattle.fc_plan.specs.declared.plan.Plan.{Plan}
use Rattle.fc_safe.specs.FirstNeeds.{Stir, ids_of, needs_by}
use Rattle.fc_safe.specs.FirstSpace.{IsFirstOf}
use Rattle.fc_safe.specs.Needs.{AreMet}
use Rattle.fc_safe.specs.declared.planned.Planned.{Planned}

-- The needs of an object of so many bytes and of what is stirred are met by these plans; these identifiers hold a changed directory, and
-- these nodes' objects leave theirs.
pub record IsPlanned (m : Map) (h : Parts) (s : Stir) (bytes : ℕ) (p : Planned) : Type 0 where
  pub met : AreMet m (needs_by m h s bytes) p.plans.items
  pub ids : p.ids.items ≡ ids_of m h s
  pub leaving : p.leaving.items ≡ s.leaving

-- a plan of its own for an object, if it has bytes: the first
abbrev pub IsOwnFirst : ℕ → List Plan → Option Plan → Type 0
IsOwnFirst bytes plans None = bytes ≡ 0
IsOwnFirst bytes plans (Some plan) = (0 < bytes) × IsFirstOf plans plan
