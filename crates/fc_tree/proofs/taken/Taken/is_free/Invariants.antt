use Rattle.std.proofs.Common.{◌≡◌, ◌<◌, ◌≤◌, ℕ, false, ◌-◌}
use Rattle.fc_tree.specs.Taken.{has_mark}
use Rattle.fc_tree.proofs.taken.Taken.is_free.Given as goal

abbrev pub invariant-loop-sector : goal.invariant-loop-sector
invariant-loop-sector l = record {
  from : l.extent.first ≤ l.sector;
  within : l.extent.first < l.sector → l.sector ≤ l.end;
  none : (s : ℕ) → l.extent.first ≤ s → s < l.sector → has_mark l.self s ≡ false;
}

abbrev pub decreases-loop-sector : goal.decreases-loop-sector
decreases-loop-sector l = l.end - l.sector
