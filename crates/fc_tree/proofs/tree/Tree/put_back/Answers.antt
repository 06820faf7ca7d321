use Rattle.std.proofs.Common.{◌<◌, Some, sym, ap, ◌∙◌, arith, length, length-set}
use Rattle.std.specs.Prelude.{is_some}
use Rattle.fc_tree.specs.Nodes.{Numbers}
use Rattle.fc_tree.specs.Slots.{slot_at}
use Rattle.fc_tree.proofs.SlotLemmas.{get-nodes_of}
use Rattle.fc_tree.proofs.ChangeLemmas.{held_set, nodes_put, slot_set, slot_set_other}
use Rattle.fc_tree.proofs.tree.Tree.put_back.Goals as goal

pub put-requires-clause-free : goal.put-requires-clause-free
put-requires-clause-free c =
    let seen = ap (λ (t : Numbers). t.slots) c.self.view_is in
    ap (λ s. slot_at s c.args.n) (c.deref.ensures.value ∙ seen) ∙ sym (get-nodes_of c.args.self.now c.args.n) ∙ c.requires.free

pub invariant_of-self : goal.invariant_of-self
invariant_of-self c =
    let slots = c.self.inside.slots.items in
    let seen = ap (λ (t : Numbers). t.slots) c.self.view_is in
    let within : c.args.n < length slots = omega (arith, c.requires.below, ap length seen) in
    let there = ap (λ s. slot_at s c.args.n) c.put_slot.ensures.items ∙ slot_set slots c.args.n (Some c.args.node) within in
    let others = slot_set_other slots c.args.n (Some c.args.node) in
    held_set slots c.put_slot.new.slots.items c.self.inside.table c.put.new.self c.self.inside.vacancy c.put-2.new.self c.self.inside.room c.args.n _ _ c.args.node c.self.invariant
    (c.put.ensures c.put_slot.new.slots.items there
    (λ m apart. ap (λ s. slot_at s m) c.put_slot.ensures.items ∙ others m apart ∙ ap (λ s. slot_at s m) (sym c.deref.ensures.value)))
    (c.put-2.ensures slots c.put_slot.new.slots.items (λ m apart. ap (λ s. slot_at s m) c.put_slot.ensures.items ∙ others m apart) (ap is_some there)
    (omega (arith, ap length c.put_slot.ensures.items, length-set slots c.args.n (Some c.args.node))) c.self.invariant.vacant)
    c.put_slot.ensures.items c.put_slot.ensures.capacity

pub returns-clause-nodes : goal.returns-clause-nodes
returns-clause-nodes c =
    let slots = c.self.inside.slots.items in
    let seen = ap (λ (t : Numbers). t.slots) c.self.view_is in
    let within : c.args.n < length slots = omega (arith, c.requires.below, ap length seen) in
    nodes_put c.args.self.now (record { slots = c.put_slot.new.slots.items; room = c.self.inside.room }) c.args.n c.args.node
    (ap (λ s. slot_at s c.args.n) c.put_slot.ensures.items ∙ slot_set slots c.args.n (Some c.args.node) within)
    (λ m apart. ap (λ s. slot_at s m) c.put_slot.ensures.items ∙ slot_set_other slots c.args.n (Some c.args.node) m apart ∙ ap (λ s. slot_at s m) seen)
