use Rattle.std.proofs.Common.{◌≡◌, length}
use Rattle.fc_bench.proofs.plans.made.Given as goal

abbrev pub invariant-loop-z : goal.invariant-loop-z
invariant-loop-z l = length l.zones.items ≡ 4096000
