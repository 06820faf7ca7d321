use Rattle.std.proofs.Common.{ap, ◌∙◌}
use Rattle.fc_tree.specs.Nodes.{Numbers, child}
use Rattle.fc_tree.proofs.ChangeLemmas.{same_nodes}
use Rattle.fc_tree.proofs.tree.Tree.child.Goals as goal

pub returns : goal.returns
returns c =
    c.child.ensures
    ∙ ap (λ nodes. child nodes c.args.dir c.args.name.now)
    (same_nodes (record { slots = c.deref.result.now; room = 0 }) c.args.self.now (c.deref.ensures.value ∙ ap (λ (t : Numbers). t.slots) c.self.view_is))
