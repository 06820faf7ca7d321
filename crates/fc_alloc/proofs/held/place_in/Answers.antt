use Rattle.std.proofs.Common.{rules}
use Rattle.std.proofs.lemmas.List.Sorted.{IsPartitionPoint-from_clause}
use Rattle.fc_alloc.specs.Owners.{comes_before}
use Rattle.fc_alloc.proofs.OrderLemmas.{partitioned}
use Rattle.fc_alloc.proofs.held.place_in.Goals as goal

pub returns-clause-point : goal.returns-clause-point
returns-clause-point c order =
    let row = c.args.row.now in
    let o = c.args.o.now in
    IsPartitionPoint-from_clause (λ p. comes_before p o) row c.partition_point.result c.partition_point.ensures.partitioned (partitioned row o order) (λ a r q h. search rules)
