use Rattle.std.proofs.Common.{◌≡◌, ◌≤◌, ◌*◌, take}
use Rattle.fc_dirs.specs.Big.{packed_places}
use Rattle.fc_bigdir.proofs.PackLemmas.{names_end}
use Rattle.fc_bigdir.proofs.enter.number_places.Given as goal

abbrev pub invariant-loop-i : goal.invariant-loop-i
invariant-loop-i l = record {
  done : take l.i l.places ≡ packed_places 0 (take l.i l.entries);
  at : l.at ≡ names_end 0 (take l.i l.entries);
  small : l.at ≤ 256 * l.i;
}
