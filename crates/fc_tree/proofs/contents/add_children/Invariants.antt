use Rattle.std.proofs.Common.{◌≡◌, ◌++◌, ℕ, List, drop}
use Rattle.fc_image.specs.Walk.{Object}
use Rattle.fc_space.specs.Space.{layout_of}
use Rattle.fc_tree.specs.declared.node.Node.{Node}
use Rattle.fc_tree.specs.Taken.{AreTaken}
use Rattle.fc_tree.specs.Walking.{HoldsObject}
use Rattle.fc_tree.proofs.ChildLemmas.{SoFar}
use Rattle.fc_tree.proofs.contents.add_children.Given as goal

abbrev pub invariant-loop-entry : goal.invariant-loop-entry
invariant-loop-entry l = record {
  sectors : l.taken.sectors ≡ l.fn.taken.sectors;
  done : (dir : Object) (before : List ℕ) → HoldsObject (layout_of l.places) l.fn.nodes.items l.at dir → AreTaken l.fn.taken before
      → SoFar (layout_of l.places) before dir l.at l.entries (drop l.entry-index l.entries) l.fn.nodes.items l.nodes.items l.taken;
  more : (more : List Node) × (l.nodes.items ≡ l.fn.nodes.items ++ more);
  held : (dir : Object) × HoldsObject (layout_of l.places) l.nodes.items l.at dir;
}
