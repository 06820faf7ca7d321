use Rattle.std.proofs.Common.{◌≡◌}
use Rattle.fc_newmap.specs.Ids.{unused_from}
use Rattle.fc_newmap.proofs.map.NewMap.next_unused.Given as goal

abbrev pub invariant-loop-id : goal.invariant-loop-id
invariant-loop-id l = unused_from l.self l.id ≡ unused_from l.fn.self l.from
