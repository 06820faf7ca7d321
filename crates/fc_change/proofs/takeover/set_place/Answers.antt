use Rattle.std.proofs.Common.{List, Option, Some, sym, ap, ◌∙◌}
use Rattle.std.specs.Prelude.{is_none, slice_set}
use Rattle.std.specs.List.{position_or_len}
use Rattle.fc_tree.proofs.SlotLemmas.{get-nodes_of}
use Rattle.fc_change.proofs.TurningLemmas.{same_vacant}
use Rattle.fc_drafts.specs.Entries.{regrown}
use Rattle.fc_tree.specs.declared.node.Node.{Node}
use Rattle.fc_tree.specs.Nodes.{nodes_of}
use Rattle.fc_change.proofs.TakingLemmas.{put_changed, taken_free}
use Rattle.fc_change.proofs.takeover.set_place.Goals as goal

pub put_back-requires-clause-free : goal.put_back-requires-clause-free
put_back-requires-clause-free c = taken_free (nodes_of c.args.tree.now) (nodes_of c.take_out-node.new.self) c.args.g.node c.take_out-node.ensures.nodes

pub returns-clause-nodes : goal.returns-clause-nodes
returns-clause-nodes c =
    put_changed (nodes_of c.args.tree.now) (nodes_of c.take_out-node.new.self) (nodes_of c.put_back.new.self) c.args.g.node c.take_out-node.result
    (λ (node : Node). record node { entry = regrown node.entry c.args.g.address c.args.g.len })
    c.take_out-node.ensures.node c.take_out-node.ensures.nodes c.put_back.ensures.nodes

pub returns-clause-next : goal.returns-clause-next
returns-clause-next c =
    let was = c.args.tree.now in
    let n = c.args.g.node in
    let now : Node = record c.take_out-node.result { entry = regrown c.take_out-node.result.entry c.args.g.address c.args.g.len } in
    ap (position_or_len is_none) (c.put_back.ensures.slots ∙ ap (λ (slots : List (Option Node)). slice_set slots n (Some now)) c.take_out-node.ensures.slots)
    ∙ same_vacant was.slots n now c.take_out-node.result (sym (get-nodes_of was n) ∙ c.take_out-node.ensures.node)
