use Rattle.std.proofs.Common.{rules}
use Rattle.std.proofs.lemmas.Fn.{always_returns_same}
use Rattle.fc_tree.specs.Index.{is_before}
use Rattle.fc_tree.specs.Places.{shown}
use Rattle.fc_tree.proofs.IndexLemmas.{partitioned, rank_is}
use Rattle.fc_tree.proofs.index.rank.Goals as goal

pub returns : goal.returns
returns c =
    let slots = c.args.slots.now in
    let order = c.args.order.now in
    let key = shown c.args.place.now in
    rank_is slots order key c.partition_point.result c.partition_point.ensures.bound
    (c.partition_point.ensures.partitioned (is_before slots key) (always_returns_same _ _ _ (λ a r q h. search rules)) (partitioned key.holder slots order key c.requires))
