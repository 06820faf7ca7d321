use Rattle.std.proofs.Common.{◌≡◌, ℕ, sym, ap, ◌∙◌}
use Rattle.fc_image.specs.Layout.{dir_form}
use Rattle.fc_oldlaws.specs.moves.After.{start_after}
use Rattle.fc_oldlaws.specs.moves.Nodes.{body_after}
use Rattle.fc_space.specs.Space.{layout_of}
use Rattle.fc_tree.specs.Counts.{address_in}
use Rattle.fc_tree.specs.Nodes.{nodes_of}
use Rattle.fc_tree.specs.declared.node.Body.{Body}
use Rattle.fc_tree.specs.declared.node.Node.{Node}
use Rattle.fc_tree.proofs.WalkedLemmas.{same_some}
use Rattle.fc_change.proofs.TakingLemmas.{put_changed, taken_free}
use Rattle.fc_volume.specs.OldCompacting.{readdressed_node}
use Rattle.fc_volume.proofs.NumbersLemmas.{unchanged}
use Rattle.fc_volume.proofs.old.compacting.directories.readdress_number.Goals as goal

pub put_back-requires-clause-free : goal.put_back-requires-clause-free
put_back-requires-clause-free c = taken_free (nodes_of c.args.tree.now) (nodes_of c.take_out-node.new.self) c.args.n c.take_out-node.ensures.nodes

pub returns-in-File-clause-nodes : goal.returns-in-File-clause-nodes
returns-in-File-clause-nodes c =
    let form = dir_form (layout_of c.args.space.now) in
    let move = start_after c.args.moves.now.before.items c.args.moves.now.after.items in
    let nodes = nodes_of c.args.tree.now in
    let node : Node = c.in-Some.node.now in
    unchanged nodes c.args.n node (readdressed_node form move nodes) c.in-Some.ensures
    (ap (λ (b : Body). record node { body = body_after form move (address_in nodes node.holder) b }) c.in-File.is ∙ ap (λ (b : Body). record node { body = b }) (sym c.in-File.is))

pub returns-clause-nodes : goal.returns-clause-nodes
returns-clause-nodes c =
    let form = dir_form (layout_of c.args.space.now) in
    let move = start_after c.args.moves.now.before.items c.args.moves.now.after.items in
    let nodes = nodes_of c.args.tree.now in
    let same : c.in-Some.node.now ≡ c.take_out-node.result = same_some c.in-Some.node.now c.take_out-node.result (c.in-Some.ensures ∙ c.take_out-node.ensures.node) in
    let holder : c.holder_address-holder.result ≡ address_in nodes c.take_out-node.result.holder = c.holder_address-holder.ensures ∙ ap (λ (n : Node). address_in nodes n.holder) same in
    let body : c.readdress_body.new.body ≡ body_after form move (address_in nodes c.take_out-node.result.holder) c.take_out-node.result.body =
    c.readdress_body.ensures.body ∙ ap (λ (a : ℕ). body_after form move a c.take_out-node.result.body) holder in
    put_changed nodes (nodes_of c.take_out-node.new.self) (nodes_of c.put_back.new.self) c.args.n c.take_out-node.result (readdressed_node form move nodes) c.take_out-node.ensures.node
    c.take_out-node.ensures.nodes
    (c.put_back.ensures.nodes ∙ ap (λ (b : Body). Rattle.std.specs.FinMap.insert (nodes_of c.take_out-node.new.self) c.args.n (record c.take_out-node.result { body = b })) body)
