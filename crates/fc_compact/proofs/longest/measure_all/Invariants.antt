use Rattle.std.proofs.Common.{◌≡◌, ◌<◌, ℕ, get_or, length}
use Rattle.fc_compact.specs.Longest.{longest_in, zones_at_most}
use Rattle.fc_compact.proofs.longest.measure_all.Given as goal

abbrev pub invariant-loop-z : goal.invariant-loop-z
invariant-loop-z l = record {
  size : length l.lens ≡ zones_at_most;
  done : (y : ℕ) → y < l.z → get_or l.lens y 0 ≡ longest_in l.map y;
}
