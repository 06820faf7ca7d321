use Rattle.std.proofs.Common.{◌<◌, All}
use Rattle.fc_alloc.specs.declared.owner.Owner.{Owner}
use Rattle.fc_bench.proofs.owners.add_all.Given as goal

-- later nodes have no owners yet
abbrev pub invariant-loop-n : goal.invariant-loop-n
invariant-loop-n l = All (λ (o : Owner). o.node < l.n) l.owners
