use Rattle.std.proofs.Common.{◌≡◌, ◌++◌, map, reverse, length}
use Rattle.fc_tree.proofs.paths.reversed.Given as goal

abbrev pub invariant-loop-name : goal.invariant-loop-name
invariant-loop-name l = l.path ++ reverse (map (λ name. name.now) l.names.items) ≡ reverse (map (λ name. name.now) l.fn.names.items)

abbrev pub decreases-loop-name : goal.decreases-loop-name
decreases-loop-name l = length l.names.items
