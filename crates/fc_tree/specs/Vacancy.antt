-- The search for the least number that no node has.
use Rattle.std.specs.Prelude.{◌≡◌, ◌<◌, ◌≤◌, ℕ, true, List, length, Option, is_some}
use Rattle.fc_tree.specs.declared.node.Node.{Node}
use Rattle.fc_tree.specs.declared.vacancy.Vacancy.{Vacancy}
use Rattle.fc_tree.specs.Slots.{AreFull, slot_at}

-- The numbers below the least have nodes, and so have those below another number, but for the one that was taken out last.
pub record IsVacancy (slots : List (Option Node)) (vacancy : Vacancy) : Type 0 where
  pub within : vacancy.least ≤ length slots
  pub full : AreFull slots vacancy.least
  pub others_within : vacancy.others ≤ length slots
  pub others : (m : ℕ) → m < vacancy.others → (m ≡ vacancy.taken → ⊥) → is_some (slot_at slots m) ≡ true
