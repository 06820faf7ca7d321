use Rattle.std.proofs.Common.{◌∙◌, sym, arith}
use Rattle.fc_tree.proofs.SlotLemmas.{child_is, is_child_true, no_child, slot_within}
use Rattle.fc_tree.proofs.index.child_among.Goals as goal

pub returns-then-is_child : goal.returns-then-is_child
returns-then-is_child c =
    let slots = c.args.slots.now in
    let there = is_child_true slots c.args.dir c.loop-n.n c.args.name.now (sym c.is_child.ensures ∙ c.if-is_child.true) in
    child_is (record { slots = slots; room = 0 }) c.args.dir c.loop-n.n c.args.name.now there.0 there.1 there.2 (λ j m below here. c.loop-n.invariant j m below here)

pub returns : goal.returns
returns c =
    let slots = c.args.slots.now in
    no_child (record { slots = slots; room = 0 }) c.args.dir c.args.name.now (λ j m here. c.loop-n.invariant j m (let low = slot_within slots j m here in omega (arith, low, c.loop-n-test.false)) here)
