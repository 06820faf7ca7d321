-- The tree of the nodes that a walk has found.
use Rattle.std.proofs.Common.{◌≡◌, ℕ, List, map, sym, subst, Some, Option}
use Rattle.std.specs.Ordering.{nat_cmp}
use Rattle.std.specs.FinMap.{FinMap}
use Rattle.fc_image.specs.Layout.{Layout}
use Rattle.fc_tree.specs.declared.node.Node.{Node}
use Rattle.fc_tree.specs.Agree.{InOrder, reader_of_nodes}
use Rattle.fc_tree.specs.Loaded.{IsLoaded, not_free}
use Rattle.fc_tree.specs.Nodes.{HoldObjects, Numbers, nodes_of}
use Rattle.fc_tree.specs.Walking.{IsFound}
use Rattle.fc_tree.proofs.ChangeLemmas.{same_nodes}
use Rattle.fc_tree.proofs.HeldLemmas.{held_tells}
use Rattle.fc_tree.proofs.NumberLemmas.{numbers_law}

pub loaded : (layout : Layout) (reserved : List ℕ) (address size : ℕ) (told : Option (List ℕ)) (nodes : List Node) (tree : Numbers) → IsFound layout (not_free layout reserved) address size told nodes
    → tree.slots ≡ map Some nodes → IsLoaded (nodes_of tree) layout reserved address size told
loaded layout reserved address size told nodes tree found slots =
    let plain : Numbers = record { slots = map Some nodes; room = tree.room } in
    let same : nodes_of tree ≡ nodes_of plain = same_nodes tree plain slots in
    let law = numbers_law layout found.listings nodes tree.room found.sound found.numbered in
    let held : HoldObjects (nodes_of tree) found.listings = subst (λ (m : FinMap nat_cmp Node). HoldObjects m found.listings) (sym same) law.0 in
    record {
      listings = found.listings;
      walked = record {
        walked = found.walks (reader_of_nodes (nodes_of tree)) (held_tells layout found.listings (nodes_of tree) found.sound held);
        held = held;
        forms = found.forms;
        bodies = found.bodies;
      };
      in_order = subst (λ (m : FinMap nat_cmp Node). InOrder m found.listings) (sym same) law.1;
      tells = found.tells;
    }
