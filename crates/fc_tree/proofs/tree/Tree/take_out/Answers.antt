use Rattle.std.proofs.Common.{◌<◌, None, sym, ap, ◌∙◌, subst, length, length-set}
use Rattle.std.specs.Prelude.{IsSome}
use Rattle.fc_tree.specs.Nodes.{Numbers}
use Rattle.fc_tree.specs.Slots.{slot_at}
use Rattle.fc_tree.proofs.SlotLemmas.{get-nodes_of, slot_within}
use Rattle.fc_tree.proofs.ChangeLemmas.{held_cleared, nodes_taken, slot_set, slot_set_other}
use Rattle.fc_tree.proofs.tree.Tree.take_out.Goals as goal

pub take-requires-clause-there : goal.take-requires-clause-there
take-requires-clause-there c =
    let seen = ap (λ (t : Numbers). t.slots) c.self.view_is in
    subst IsSome (get-nodes_of c.args.self.now c.args.n ∙ sym (ap (λ s. slot_at s c.args.n) (c.deref.ensures.value ∙ seen))) c.requires

pub take_slot-requires : goal.take_slot-requires
take_slot-requires c =
    let seen = ap (λ (t : Numbers). t.slots) c.self.view_is in
    subst IsSome (get-nodes_of c.args.self.now c.args.n ∙ sym (ap (λ s. slot_at s c.args.n) seen)) c.requires

pub invariant_of-self : goal.invariant_of-self
invariant_of-self c =
    let slots = c.self.inside.slots.items in
    let within : c.args.n < length slots = slot_within slots c.args.n c.take_slot.result c.take_slot.ensures.node in
    let cleared = slot_set_other slots c.args.n None in
    held_cleared slots c.take_slot.new.slots.items c.self.inside.table c.take.new.self c.self.inside.vacancy c.take-2.new.self c.self.inside.room c.args.n _ _ c.self.invariant
    (c.take.ensures c.take_slot.new.slots.items
    (ap (λ s. slot_at s c.args.n) c.take_slot.ensures.items ∙ slot_set slots c.args.n None within)
    (λ m apart. ap (λ s. slot_at s m) c.take_slot.ensures.items ∙ slot_set_other slots c.args.n None m apart ∙ ap (λ s. slot_at s m) (sym c.deref.ensures.value)))
    (c.take-2.ensures slots c.take_slot.new.slots.items (λ m apart. ap (λ s. slot_at s m) c.take_slot.ensures.items ∙ cleared m apart) (ap length c.take_slot.ensures.items ∙ length-set slots c.args.n None) c.self.invariant.vacant)
    c.take_slot.ensures.items c.take_slot.ensures.capacity

pub returns-clause-node : goal.returns-clause-node
returns-clause-node c =
    let seen = ap (λ (t : Numbers). t.slots) c.self.view_is in
    get-nodes_of c.args.self.now c.args.n ∙ sym (ap (λ s. slot_at s c.args.n) seen) ∙ c.take_slot.ensures.node

pub returns-clause-nodes : goal.returns-clause-nodes
returns-clause-nodes c =
    let slots = c.self.inside.slots.items in
    let seen = ap (λ (t : Numbers). t.slots) c.self.view_is in
    nodes_taken c.args.self.now (record { slots = c.take_slot.new.slots.items; room = c.self.inside.room }) c.args.n
    (ap (λ s. slot_at s c.args.n) c.take_slot.ensures.items ∙ slot_set slots c.args.n None (slot_within slots c.args.n c.take_slot.result c.take_slot.ensures.node))
    (λ m apart. ap (λ s. slot_at s m) c.take_slot.ensures.items ∙ slot_set_other slots c.args.n None m apart ∙ ap (λ s. slot_at s m) seen)
