use Rattle.std.proofs.Common.{◌≡◌, map, take}
use Rattle.fc_alloc.specs.declared.owner.Owner.{Owner}
use Rattle.fc_safe.proofs.staying.ids_of.Given as goal

abbrev pub invariant-loop-o : goal.invariant-loop-o
invariant-loop-o l = l.ids.items ≡ map (λ (o : Owner). o.id) (take l.o-index l.found)
