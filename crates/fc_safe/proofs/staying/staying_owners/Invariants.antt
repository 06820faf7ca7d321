use Rattle.std.proofs.Common.{◌≡◌, take}
use Rattle.std.specs.List.{flat_map}
use Rattle.fc_safe.specs.Staying.{staying_of}
use Rattle.fc_safe.proofs.staying.staying_owners.Given as goal

abbrev pub invariant-loop-n : goal.invariant-loop-n
invariant-loop-n l = l.found.items ≡ flat_map (staying_of l.owners l.moving.leaving.items) (take l.n-index l.moving.changed.items)
