use Rattle.std.proofs.Common.{◌≡◌, ◌≤◌, ◌-◌, ℕ, [], length}
use Rattle.fc_compact.specs.Candidates.{zones_at}
use Rattle.fc_compact.proofs.candidates.Candidates.clear_zones.Given as goal

abbrev pub invariant-loop-self : goal.invariant-loop-self
invariant-loop-self l = record {
  ids : l.self.ids ≡ l.fn.self.ids;
  few : length l.self.zones.items ≤ length l.self.ids.items;
  none : (k : ℕ) → zones_at l.self k ≡ [];
}

abbrev pub decreases-loop-self : goal.decreases-loop-self
decreases-loop-self l = length l.self.ids.items - length l.self.zones.items
