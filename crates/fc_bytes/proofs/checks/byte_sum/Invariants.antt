use Rattle.std.proofs.Common.{◌≡◌, ◌≤◌, ◌<◌, drop, length}
use Rattle.fc_bytes.specs.Checks.{carry_sum}
use Rattle.fc_bytes.proofs.checks.byte_sum.Given as goal

-- the sum of what is behind
abbrev pub invariant-loop-i : goal.invariant-loop-i
invariant-loop-i l = record { within : l.i ≤ length l.bytes; sum : l.sum ≡ carry_sum 256 l.start (drop l.i l.bytes); below : l.sum < 512 }

abbrev pub decreases-loop-i : goal.decreases-loop-i
decreases-loop-i l = l.i
