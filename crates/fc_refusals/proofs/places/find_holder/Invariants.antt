use Rattle.std.proofs.Common.{◌≡◌, ◌∷◌}
use Rattle.fc_model.specs.Tree.{holder}
use Rattle.fc_tree.specs.Nodes.{found_from, found_in, nodes_of}
use Rattle.fc_refusals.proofs.places.find_holder.Given as goal

-- what is left, but for the last name, leads from here to where the path of the holder leads
abbrev pub invariant-loop-next : goal.invariant-loop-next
invariant-loop-next l = found_from (nodes_of l.tree) l.at (holder (l.name ∷ l.next-iterator)) ≡ found_in (nodes_of l.tree) (holder l.path)
