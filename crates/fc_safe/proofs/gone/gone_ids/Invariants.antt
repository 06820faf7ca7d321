use Rattle.std.proofs.Common.{◌≡◌, ◌++◌, take}
use Rattle.std.specs.List.{flat_map}
use Rattle.fc_safe.specs.Gone.{left_of}
use Rattle.fc_safe.proofs.gone.gone_ids.Given as goal

abbrev pub invariant-loop-n : goal.invariant-loop-n
invariant-loop-n l = l.gone.items ≡ l.ids ++ flat_map (left_of l.leaving l.shared l.owners) (take l.n-index l.leaving)
