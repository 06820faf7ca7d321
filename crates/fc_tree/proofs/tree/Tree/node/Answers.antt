use Rattle.std.proofs.Common.{sym, ap, ◌∙◌}
use Rattle.fc_tree.specs.Nodes.{Numbers}
use Rattle.fc_tree.specs.Slots.{slot_at}
use Rattle.fc_tree.proofs.SlotLemmas.{get-nodes_of}
use Rattle.fc_tree.proofs.tree.Tree.node.Goals as goal

pub returns : goal.returns
returns c =
    c.node_at.ensures
    ∙ ap (λ s. slot_at s c.args.n) (c.deref.ensures.value ∙ ap (λ (t : Numbers). t.slots) c.self.view_is)
    ∙ sym (get-nodes_of c.args.self.now c.args.n)
