use Rattle.std.proofs.Common.{sym, ◌∙◌}
use Rattle.fc_tree.proofs.IndexLemmas.{child_past, child_other, child_there}
use Rattle.fc_tree.proofs.index.first_child.Goals as goal

pub returns-in_err-n : goal.returns-in_err-n
returns-in_err-n c =
    c.from_residual.ensures ∙ child_past c.args.slots.now c.args.order.now c.rank.result c.args.dir c.args.name.now c.requires c.rank.ensures c.in_err-n.ensures.lookup.3

pub returns-then-is_child : goal.returns-then-is_child
returns-then-is_child c =
    child_there c.args.slots.now c.args.order.now c.rank.result c.args.dir c.in_ok-n.field-0.now c.args.name.now c.requires c.rank.ensures (sym (c.in_ok-n.ensures.lookup.3.1 0))
    (sym c.is_child.ensures ∙ c.if-is_child.true)

pub returns-else-is_child : goal.returns-else-is_child
returns-else-is_child c =
    child_other c.args.slots.now c.args.order.now c.rank.result c.args.dir c.in_ok-n.field-0.now c.args.name.now c.requires c.rank.ensures (sym (c.in_ok-n.ensures.lookup.3.1 0))
    (sym c.is_child.ensures ∙ c.if-is_child.false)
