use Rattle.std.proofs.Common.{◌≡◌, ◌≤◌, length}
use Rattle.fc_bench.proofs.plans.put_zone.Given as goal

abbrev pub invariant-loop-i : goal.invariant-loop-i
invariant-loop-i l = record {
  size : length l.sector ≡ 1024;
  at : l.at ≤ 8000;
  link : l.link ≤ l.at;
}
