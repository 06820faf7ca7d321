use Rattle.std.proofs.Common.{◌≡◌, ◌++◌, take}
use Rattle.std.specs.Prelude.{filter, nat_lt}
use Rattle.fc_compact.proofs.lookup.push_above.Given as goal

abbrev pub invariant-loop-y : goal.invariant-loop-y
invariant-loop-y l = l.list.items ≡ l.fn.list.items ++ filter (λ y. nat_lt l.z y) (take l.y-index l.zones)
