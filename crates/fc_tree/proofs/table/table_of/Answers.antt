use Rattle.std.proofs.Common.{◌∙◌, Some, List, ℕ, ap, filter, map, subst, sym}
use Rattle.fc_tree.specs.Index.{IsIndex}
use Rattle.fc_tree.specs.Places.{is_in}
use Rattle.fc_tree.proofs.ShareLemmas.{shared}
use Rattle.fc_tree.proofs.table.table_of.Goals as goal

pub returns : goal.returns
returns c complete dir =
    let nodes = c.args.nodes.now in
    subst (IsIndex dir (map Some nodes)) (sym (c.in_ok-lists_of.ensures dir ∙ ap (λ (l : List ℕ). filter (is_in nodes dir) l) c.deref.ensures.value))
    (shared nodes c.in_ok-order.order.items dir c.in_ok-order.ensures)
