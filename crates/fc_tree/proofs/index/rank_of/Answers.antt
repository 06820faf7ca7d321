use Rattle.std.proofs.Common.{sym, ap, ◌∙◌, subst}
use Rattle.std.specs.Option.{option_map}
use Rattle.std.specs.Borrow.{Bor}
use Rattle.fc_tree.specs.declared.node.Node.{Node}
use Rattle.fc_tree.specs.Index.{IsRank}
use Rattle.fc_tree.proofs.IndexLemmas.{rank_exact}
use Rattle.fc_tree.proofs.index.rank_of.Goals as goal

pub returns : goal.returns
returns c =
    let slots = c.args.slots.now in
    let order = c.args.order.now in
    let is = sym c.node_at.ensures ∙ ap (option_map (λ (node : Bor Node). node.now)) c.unwrap-node.ensures in
    let exact = rank_exact slots order c.rank.result c.args.n c.unwrap-node.result.now (c.requires.index c.unwrap-node.result.now is) is
    (subst (λ key. IsRank slots order key c.rank.result) c.place_of.ensures c.rank.ensures) in
    record { within = exact.0; number = exact.1 }
