use Rattle.std.proofs.Common.{◌≡◌, drop}
use Rattle.fc_objects.specs.Extents.{sectors_in}
use Rattle.fc_tree.specs.Taken.{is_free}
use Rattle.fc_tree.proofs.taken.Taken.are_free.Given as goal

abbrev pub invariant-loop-extent : goal.invariant-loop-extent
invariant-loop-extent l = is_free l.self (sectors_in l.place) ≡ is_free l.self (sectors_in (drop l.extent-index l.place))
