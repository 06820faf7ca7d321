use Rattle.std.proofs.Common.{◌≡◌, ◌<◌, ◌≤◌, ◌-◌, ◌++◌, ℕ, List}
use Rattle.std.specs.List.{range_with_len}
use Rattle.fc_tree.specs.Taken.{AreTaken}
use Rattle.fc_tree.proofs.taken.Taken.take_extent.Given as goal

abbrev pub invariant-loop-sector : goal.invariant-loop-sector
invariant-loop-sector l = record {
  from : l.extent.first ≤ l.sector;
  within : l.extent.first < l.sector → l.sector ≤ l.end;
  sectors : l.self.sectors ≡ l.fn.self.sectors;
  taken : (taken : List ℕ) → AreTaken l.fn.self taken → AreTaken l.self (range_with_len l.extent.first (l.sector - l.extent.first) ++ taken);
}

abbrev pub decreases-loop-sector : goal.decreases-loop-sector
decreases-loop-sector l = l.end - l.sector
