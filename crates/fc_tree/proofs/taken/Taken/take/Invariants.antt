use Rattle.std.proofs.Common.{◌≡◌, ◌++◌, ℕ, List, take}
use Rattle.fc_objects.specs.Extents.{sectors_in}
use Rattle.fc_tree.specs.Taken.{AreTaken}
use Rattle.fc_tree.proofs.taken.Taken.take.Given as goal

abbrev pub invariant-loop-extent : goal.invariant-loop-extent
invariant-loop-extent l = record {
  sectors : l.self.sectors ≡ l.fn.self.sectors;
  taken : (taken : List ℕ) → AreTaken l.fn.self taken → AreTaken l.self (sectors_in (take l.extent-index l.place) ++ taken);
}
