use Rattle.std.proofs.Common.{◌≡◌, take}
use Rattle.fc_newmap.proofs.copies.zones.few_zones.Given as goal

abbrev pub invariant-loop-z : goal.invariant-loop-z
invariant-loop-z l = l.few.items ≡ take l.z-index l.zones
