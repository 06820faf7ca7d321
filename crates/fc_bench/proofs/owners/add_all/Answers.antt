use Rattle.std.proofs.Common.{arith}
use Rattle.std.proofs.lemmas.Bool.{ne_eqb}
use Rattle.std.proofs.lemmas.List.Folds.{list_any_none}
use Rattle.fc_alloc.specs.Owners.{is_node}
use Rattle.fc_bench.proofs.owners.add_all.Goals as goal

pub add-requires : goal.add-requires
add-requires c =
    list_any_none (is_node c.owner.result.node) c.loop-n.owners (λ k d within. ne_eqb _ _ (λ e.
    let below = c.loop-n.invariant k d within in absurd (omega (arith, below, e, c.owner.ensures, c.from.ensures))))
