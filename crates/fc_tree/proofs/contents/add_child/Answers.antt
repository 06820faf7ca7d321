use Rattle.std.proofs.Common.{◌∙◌, ◌≡◌, ◌++◌, ◌∷◌, [], ap, sym}
use Rattle.std.proofs.lemmas.Result.{IfOk-weaker}
use Rattle.fc_space.specs.Space.{layout_of}
use Rattle.fc_tree.specs.declared.node.Body.TheVariants as bodies
use Rattle.fc_tree.specs.declared.node.Node.{Node}
use Rattle.fc_tree.specs.Walking.{new_node}
use Rattle.fc_tree.proofs.ClaimLemmas.{object_is}
use Rattle.fc_tree.proofs.contents.add_child.Goals as goal

pub returns-in-Ok-clause-ok : goal.returns-in-Ok-clause-ok
returns-in-Ok-clause-ok c = IfOk-weaker c.push_child.result _ _ (λ x h. λ dir before stands taken.
    (let layout = layout_of c.args.places.now in
    let path = dir.path ++ c.args.entry.now.name ∷ [] in
    let found = c.in-Ok.ensures.ok path before taken in
    let entry : found.0.entry ≡ c.args.entry.now = (object_is layout before path c.args.entry.now found.0 found.1).1 in
    let node : record { holder = c.args.at; entry = c.args.entry.now; body = bodies.File } ≡ new_node c.args.at found.0 =
    ap (λ e. let n : Node = record { holder = c.args.at; entry = e; body = bodies.File } in n) (sym entry) in
    (found.0, found.1, found.2, h ∙ ap (λ (n : Node). c.args.nodes.now.items ++ n ∷ []) node))) c.push_child.ensures.ok
