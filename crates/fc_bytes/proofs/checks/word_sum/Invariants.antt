use Rattle.std.proofs.Common.{◌≡◌, ◌≤◌, ◌<◌, ◌%◌, ◌^◌, drop, length}
use Rattle.fc_bytes.specs.Words.{words}
use Rattle.fc_bytes.specs.Checks.{carry_sum}
use Rattle.fc_bytes.proofs.checks.word_sum.Given as goal

-- the sum of the words that are behind
abbrev pub invariant-loop-i : goal.invariant-loop-i
invariant-loop-i l = record { whole : l.i % 4 ≡ 0; within : l.i ≤ length l.bytes; sum : l.sum ≡ carry_sum (2 ^ 32) 0 (words (drop l.i l.bytes)); below : l.sum < 2 ^ 33 }

abbrev pub decreases-loop-i : goal.decreases-loop-i
decreases-loop-i l = l.i
