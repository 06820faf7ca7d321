-- The index of nodes: for each directory the numbers of the nodes that it holds.
use Rattle.std.specs.Prelude.{◌≤◌, ℕ, ◌+◌, IsTrue, List, length, Option}
use Rattle.fc_alloc.specs.Lists.{nodes_at}
use Rattle.fc_tree.specs.declared.node.Node.{Node}
use Rattle.fc_tree.specs.declared.table.Table.{Table}
use Rattle.fc_tree.specs.declared.vacancy.Vacancy.{Vacancy}
use Rattle.fc_tree.specs.Vacancy.{IsVacancy}
use Rattle.fc_tree.specs.Index.{IsIndex}

-- unless it was given up, the table has each directory's numbers, in order
abbrev pub AreIndexed : List (Option Node) → Table → Type 0
AreIndexed slots table = IsTrue table.complete → (dir : ℕ) → IsIndex dir slots (nodes_at table.lists.items dir)

-- Table and vacancy are those of the slots, and there is room for as many more slots, with no more memory.
pub record IsHeld (slots : List (Option Node)) (table : Table) (vacancy : Vacancy) (room capacity : ℕ) : Type 0 where
  pub index : AreIndexed slots table
  pub slots_room : length slots + room ≤ capacity
  pub vacant : IsVacancy slots vacancy
