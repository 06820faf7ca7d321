use Rattle.std.proofs.Common.{◌≡◌, filter}
use Rattle.std.specs.List.{range_with_len}
use Rattle.fc_compact.specs.Joins.{has_run_in}
use Rattle.fc_compact.proofs.lookup.zones_of.Given as goal

abbrev pub invariant-loop-z : goal.invariant-loop-z
invariant-loop-z l = l.found.items ≡ filter (has_run_in l.map l.id) (range_with_len 0 l.z)
