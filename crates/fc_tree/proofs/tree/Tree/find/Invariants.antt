use Rattle.std.proofs.Common.{◌≡◌}
use Rattle.fc_tree.specs.Nodes.{found_from, found_in, nodes_of}
use Rattle.fc_tree.proofs.tree.Tree.find.Given as goal

-- what is left leads from here to where the path leads
abbrev pub invariant-loop-name : goal.invariant-loop-name
invariant-loop-name l = found_from (nodes_of l.self) l.at l.name-iterator ≡ found_in (nodes_of l.self) l.p
