use Rattle.std.proofs.Common.{ℕ, ◌<◌, ◌≤◌}
use Rattle.fc_tree.specs.Walking.{IsFileAt}
use Rattle.fc_tree.proofs.walk.next_directory.Given as goal

abbrev pub invariant-loop-i : goal.invariant-loop-i
invariant-loop-i l = (j : ℕ) → l.from ≤ j → j < l.i → IsFileAt l.nodes j
