use Rattle.std.proofs.Common.{◌≡◌, ◌<◌, ◌≤◌, ℕ, false, get_or}
use Rattle.std.specs.List.{list_any}
use Rattle.fc_newmap.specs.Map.{has_id, runs_of}
use Rattle.fc_plan.proofs.giving.next_zone.Given as goal

abbrev pub invariant-loop-i : goal.invariant-loop-i
invariant-loop-i l = record {
  onward : l.z ≤ l.next;
  low : l.next ≤ l.fn.map.geometry.zones;
  none : (y j : ℕ) → l.z ≤ y → y < l.next → j < l.i → list_any (λ run. has_id (get_or l.fn.ids j 0) run.kind) (runs_of l.fn.map y) ≡ false;
}
