use Rattle.std.proofs.Common.{◌≡◌, List, Option, Some, ap, sym, subst, arith, length, map}
use Rattle.std.proofs.lemmas.List.{length-map}
use Rattle.fc_tree.specs.declared.node.Node.{Node}
use Rattle.fc_tree.specs.Slots.{AreFull}
use Rattle.fc_tree.specs.Table.{AreIndexed}
use Rattle.fc_tree.proofs.ChangeLemmas.{all_full}
use Rattle.fc_tree.proofs.tree.Tree.from_nodes.Goals as goal

pub invariant_of-result : goal.invariant_of-result
invariant_of-result c =
    let nodes = c.args.nodes.items in
    let slots = c.in_ok-slots.slots.items in
    let same : slots ≡ map Some nodes = c.in_ok-slots.ensures in
    let size : c.len.result ≡ length nodes = omega (arith, ap length same, length-map nodes (λ (n : Node). let o : Option Node = Some n in o)) in
    record {
      index = subst (λ (s : List (Option Node)). AreIndexed s c.in_ok-table.table) (sym same) (subst (λ (ns : List Node). AreIndexed (map Some ns) c.in_ok-table.table) c.deref.ensures.value c.in_ok-table.ensures);
      slots_room = omega arith;
      vacant = c.past-vacancy.ensures slots (omega arith) (subst (λ (s : List (Option Node)). AreFull s c.len.result) (sym same) (subst (AreFull (map Some nodes)) (sym size) (all_full nodes)));
    }
