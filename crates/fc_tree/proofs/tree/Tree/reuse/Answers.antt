use Rattle.std.proofs.Common.{ap, ◌-◌, ◌∙◌}
use Rattle.fc_tree.specs.Nodes.{Numbers}
use Rattle.fc_tree.proofs.ChangeLemmas.{same_nodes}
use Rattle.fc_tree.proofs.tree.Tree.reuse.Goals as goal

pub returns-clause-nodes : goal.returns-clause-nodes
returns-clause-nodes c =
    same_nodes (record { slots = c.self.inside.slots.items; room = c.self.inside.room - 1 }) c.put_back.new.self (ap (λ (t : Numbers). t.slots) c.self.view_is) ∙ c.put_back.ensures.nodes
