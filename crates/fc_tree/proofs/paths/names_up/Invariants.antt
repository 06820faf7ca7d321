use Rattle.std.proofs.Common.{map}
use Rattle.fc_tree.proofs.PathLemmas.{IsOnTheWay}
use Rattle.fc_tree.proofs.paths.names_up.Given as goal

abbrev pub invariant-loop-at : goal.invariant-loop-at
invariant-loop-at l = IsOnTheWay l.nodes l.fn.at l.at (map (λ name. name.now) l.names.items)

abbrev pub decreases-loop-at : goal.decreases-loop-at
decreases-loop-at l = l.at
