use Rattle.std.proofs.Common.{List, [], ◌∷◌, ◌++◌, ap, subst, ◌∙◌}
use Rattle.fc_tree.specs.Nodes.{nodes_of}
use Rattle.fc_change.specs.declared.change.Says.{Says}
use Rattle.fc_change.specs.Directories.{TellAll, around, nodes_told}
use Rattle.fc_change.proofs.DraftLemmas.{gathered}
use Rattle.fc_change.proofs.drafts.gather.Goals as goal

pub returns : goal.returns
returns c =
    let nodes = nodes_of c.args.held.now.tree.now in
    let first = c.args.first in
    let others = c.in_ok-tell_around.ensures in
    gathered c.args.grown nodes first c.args.last.items others.more c.append.new.list.items
    (subst (λ (ss : List Says). TellAll c.args.grown nodes (around c.args.grown nodes (first.node ∷ nodes_told ss)) others.more) c.deref.ensures.value others.tell)
    (c.in_ok-append.ensures
    ∙ ap (λ (ss : List Says). ss ++ c.args.last.items)
    (others.after ∙ ap (λ (ss : List Says). ss ++ others.more) (c.in_ok-push.ensures ∙ ap (λ (ss : List Says). ss ++ first ∷ []) c.new-says.ensures.items)))
