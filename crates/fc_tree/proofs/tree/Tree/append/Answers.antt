use Rattle.std.proofs.Common.{◌≡◌, ◌<◌, ℕ, ◌+◌, ◌-◌, [], ◌∷◌, ◌++◌, Some, sym, ap, ◌∙◌, arith, length, length-append}
use Rattle.std.specs.Prelude.{is_some}
use Rattle.fc_tree.specs.Nodes.{Numbers}
use Rattle.fc_tree.specs.Slots.{slot_at}
use Rattle.fc_tree.proofs.ChangeLemmas.{nodes_put, slot_pushed, slot_pushed_other}
use Rattle.fc_tree.proofs.tree.Tree.append.Goals as goal

pub returns-clause-nodes : goal.returns-clause-nodes
returns-clause-nodes c =
    let slots = c.self.inside.slots.items in
    let seen = ap (λ (t : Numbers). t.slots) c.self.view_is in
    let end : c.len-n.result ≡ length slots = omega arith in
    nodes_put c.args.self.now (record { slots = c.push_slot.new.slots.items; room = c.self.inside.room - 1 }) c.len-n.result c.args.node
    (ap (λ s. slot_at s c.len-n.result) c.push_slot.ensures.items ∙ ap (slot_at (slots ++ Some c.args.node ∷ [])) end ∙ slot_pushed slots (Some c.args.node))
    (λ m apart. ap (λ s. slot_at s m) c.push_slot.ensures.items ∙ slot_pushed_other slots (Some c.args.node) m (λ e. apart (e ∙ sym end)) ∙ ap (λ s. slot_at s m) seen)

pub invariant_of-self : goal.invariant_of-self
invariant_of-self c =
    let slots = c.self.inside.slots.items in
    let n = c.len-n.result in
    let end : n ≡ length slots = omega arith in
    let held = c.self.invariant in
    let there = ap (λ s. slot_at s n) c.push_slot.ensures.items ∙ ap (slot_at (slots ++ Some c.args.node ∷ [])) end ∙ slot_pushed slots (Some c.args.node) in
    let same = λ (m : ℕ) (apart : m ≡ n → ⊥). ap (λ s. slot_at s m) c.push_slot.ensures.items ∙ slot_pushed_other slots (Some c.args.node) m (λ e. apart (e ∙ sym end)) in
    let size : length c.push_slot.new.slots.items ≡ length slots + 1 = ap length c.push_slot.ensures.items ∙ length-append slots (Some c.args.node ∷ []) in
    let room : 0 < c.self.inside.room = omega (arith, c.requires, ap (λ (t : Numbers). t.room) c.self.view_is) in
    record {
      index = c.put.ensures c.push_slot.new.slots.items there (λ m apart. same m apart ∙ ap (λ s. slot_at s m) (sym c.deref.ensures.value));
      slots_room = omega (arith, size, room, held.slots_room, c.push_slot.ensures.capacity);
      vacant = c.put-2.ensures slots c.push_slot.new.slots.items same (ap is_some there) (omega (arith, size)) held.vacant;
    }
