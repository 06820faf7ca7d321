use Rattle.std.proofs.Common.{◌≡◌, ℕ, filter, take}
use Rattle.fc_alloc.specs.Lists.{nodes_at}
use Rattle.fc_tree.specs.Places.{is_in}
use Rattle.fc_tree.proofs.table.lists_of.Given as goal

abbrev pub invariant-loop-n : goal.invariant-loop-n
invariant-loop-n l = (dir : ℕ) → nodes_at l.lists.items dir ≡ filter (is_in l.nodes dir) (take l.n-index l.order)
