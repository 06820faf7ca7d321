use Rattle.std.proofs.Common.{◌<◌, ◌≤◌, ℕ, get_or}
use Rattle.fc_compact.proofs.longest.longest_zone.Given as goal

abbrev pub invariant-loop-z : goal.invariant-loop-z
invariant-loop-z l = record {
  low : l.best < l.zones;
  most : (y : ℕ) → y < l.z → get_or l.lens y 0 ≤ get_or l.lens l.best 0;
}
