use Rattle.std.proofs.Common.{◌≡◌, ◌∙◌, ap}
use Rattle.std.specs.Prelude.{is_none}
use Rattle.std.specs.List.{position_or_len}
use Rattle.fc_tree.specs.Nodes.{Numbers}
use Rattle.fc_tree.specs.Slots.{slot_at}
use Rattle.fc_tree.proofs.SlotLemmas.{get-nodes_of}
use Rattle.fc_tree.proofs.ChangeLemmas.{slot_vacant}
use Rattle.fc_tree.proofs.tree.Tree.next_number.Goals as goal

pub returns-clause-free : goal.returns-clause-free
returns-clause-free c =
    let tree = c.args.self.now in
    let number : c.find.result ≡ position_or_len is_none tree.slots =
    c.find.ensures.number ∙ ap (position_or_len is_none) (c.deref.ensures.value ∙ ap (λ (t : Numbers). t.slots) c.self.view_is) in
    get-nodes_of tree c.find.result ∙ ap (slot_at tree.slots) number ∙ slot_vacant tree.slots
