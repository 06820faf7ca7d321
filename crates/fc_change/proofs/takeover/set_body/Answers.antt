use Rattle.std.proofs.Common.{◌≡◌, subst}
use Rattle.std.specs.FinMap.{insert as put}
use Rattle.fc_tree.specs.declared.node.Body.{Body}
use Rattle.fc_drafts.specs.Draft.{directory_in}
use Rattle.fc_tree.specs.Nodes.{body_in, nodes_of}
use Rattle.fc_tree.specs.declared.node.Node.{Node}
use Rattle.fc_change.proofs.TakingLemmas.{put_changed, taken_free}
use Rattle.fc_change.proofs.takeover.set_body.Goals as goal

pub put_back-requires-clause-free : goal.put_back-requires-clause-free
put_back-requires-clause-free c = taken_free (nodes_of c.args.tree.now) (nodes_of c.take_out-node.new.self) c.args.n c.take_out-node.ensures.nodes

pub returns : goal.returns
returns c =
    put_changed (nodes_of c.args.tree.now) (nodes_of c.take_out-node.new.self) (nodes_of c.put_back.new.self) c.args.n c.take_out-node.result
    (λ (node : Node). record node { body = body_in (directory_in c.args.draft) })
    c.take_out-node.ensures.node c.take_out-node.ensures.nodes
    (subst (λ (b : Body). nodes_of c.put_back.new.self ≡ put (nodes_of c.take_out-node.new.self) c.args.n (record c.take_out-node.result { body = b })) c.body_of.ensures c.put_back.ensures.nodes)
