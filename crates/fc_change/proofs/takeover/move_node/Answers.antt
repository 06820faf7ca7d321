use Rattle.fc_tree.specs.declared.node.Node.{Node}
use Rattle.fc_tree.specs.Nodes.{nodes_of}
use Rattle.fc_change.proofs.TakingLemmas.{put_changed, taken_free}
use Rattle.fc_change.proofs.takeover.move_node.Goals as goal

pub put_back-requires-clause-free : goal.put_back-requires-clause-free
put_back-requires-clause-free c = taken_free (nodes_of c.args.tree.now) (nodes_of c.take_out-node.new.self) c.args.n c.take_out-node.ensures.nodes

pub returns : goal.returns
returns c =
    put_changed (nodes_of c.args.tree.now) (nodes_of c.take_out-node.new.self) (nodes_of c.put_back.new.self) c.args.n c.take_out-node.result
    (λ (node : Node). record node { holder = c.args.holder; entry = c.args.entry })
    c.take_out-node.ensures.node c.take_out-node.ensures.nodes c.put_back.ensures.nodes
