use Rattle.std.proofs.Common.{◌≡◌, ◌+◌, ◌*◌, ◌++◌, take}
use Rattle.std.specs.List.{AllByRecursion}
use Rattle.fc_bigdir.specs.Laws.{HasWords}
use Rattle.fc_dirs.specs.BigBytes.{entries_bytes}
use Rattle.fc_bigdir.proofs.put.put_entries.Given as goal

abbrev pub invariant-loop-i : goal.invariant-loop-i
invariant-loop-i l = record {
  end : l.end ≡ l.at + 28 * l.i;
  bytes : take l.end l.b ≡ take l.at l.initial.b ++ entries_bytes (take l.i l.places) (take l.i l.entries);
  words : AllByRecursion HasWords (take l.i l.entries);
}
