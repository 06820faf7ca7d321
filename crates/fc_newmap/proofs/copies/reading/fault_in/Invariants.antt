use Rattle.std.proofs.Common.{◌≡◌, true, take}
use Rattle.std.specs.List.{list_all}
use Rattle.fc_newmap.specs.Map.{zones_in}
use Rattle.fc_newmap.specs.Copies.{cross_of, is_check_right}
use Rattle.fc_newmap.proofs.copies.reading.fault_in.Given as goal

abbrev pub invariant-loop-z : goal.invariant-loop-z
invariant-loop-z l = record {
  right : list_all is_check_right (take l.z (zones_in l.g l.zones)) ≡ true;
  total : l.total ≡ cross_of (take l.z (zones_in l.g l.zones));
}
