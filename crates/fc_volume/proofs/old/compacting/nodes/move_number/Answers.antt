use Rattle.std.proofs.Common.{◌≡◌, ℕ, sym, ap, ◌∙◌}
use Rattle.std.specs.FinMap.{insert}
use Rattle.fc_image.specs.Layout.{dir_form}
use Rattle.fc_dirs.specs.declared.Entry.{Entry}
use Rattle.fc_oldlaws.specs.moves.After.{address_after, start_after}
use Rattle.fc_space.specs.Space.{layout_of}
use Rattle.fc_tree.specs.Nodes.{nodes_of}
use Rattle.fc_tree.specs.declared.node.Node.{Node}
use Rattle.fc_tree.proofs.WalkedLemmas.{same_some}
use Rattle.fc_change.proofs.TakingLemmas.{put_changed, taken_free}
use Rattle.fc_volume.specs.OldCompacting.{addressed}
use Rattle.fc_volume.proofs.NumbersLemmas.{unchanged}
use Rattle.fc_volume.proofs.old.compacting.nodes.move_number.Goals as goal

pub put_back-requires-clause-free : goal.put_back-requires-clause-free
put_back-requires-clause-free c = taken_free (nodes_of c.args.tree.now) (nodes_of c.take_out-node.new.self) c.args.n c.take_out-node.ensures.nodes

pub returns-then-address-node-clause-nodes : goal.returns-then-address-node-clause-nodes
returns-then-address-node-clause-nodes c =
    let form = dir_form (layout_of c.args.space.now) in
    let move = start_after c.args.moves.now.before.items c.args.moves.now.after.items in
    let node : Node = c.in-Some.node.now in
    let e : Entry = node.entry in
    unchanged (nodes_of c.args.tree.now) c.args.n node (addressed form move) c.in-Some.ensures
    (ap (λ (a : ℕ). record node { entry = record e { address = a } }) (sym c.address_after-address.ensures ∙ c.if-address-node.true))

pub returns-clause-nodes : goal.returns-clause-nodes
returns-clause-nodes c =
    let form = dir_form (layout_of c.args.space.now) in
    let move = start_after c.args.moves.now.before.items c.args.moves.now.after.items in
    let e : Entry = c.take_out-node.result.entry in
    let same : c.in-Some.node.now ≡ c.take_out-node.result = same_some c.in-Some.node.now c.take_out-node.result (c.in-Some.ensures ∙ c.take_out-node.ensures.node) in
    let address = c.address_after-address.ensures ∙ ap (λ (node : Node). address_after form move node.entry) same in
    put_changed (nodes_of c.args.tree.now) (nodes_of c.take_out-node.new.self) (nodes_of c.put_back.new.self) c.args.n c.take_out-node.result (addressed form move) c.take_out-node.ensures.node
    c.take_out-node.ensures.nodes
    (c.put_back.ensures.nodes ∙ ap (λ (a : ℕ). insert (nodes_of c.take_out-node.new.self) c.args.n (record c.take_out-node.result { entry = record e { address = a } })) address)
