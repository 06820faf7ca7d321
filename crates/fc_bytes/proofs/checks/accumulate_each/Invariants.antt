use Rattle.std.proofs.Common.{◌≡◌, ◌*◌, drop}
use Rattle.std.specs.List.{fold}
use Rattle.fc_bytes.specs.Words.{words}
use Rattle.fc_bytes.specs.Checks.{accumulate}
use Rattle.fc_bytes.proofs.checks.accumulate_each.Given as goal

-- with the words that are left the whole is taken in
abbrev pub invariant-loop-i : goal.invariant-loop-i
invariant-loop-i l = fold accumulate l.sum (words (drop (4 * l.i) l.bytes)) ≡ fold accumulate l.fn.sum (words l.bytes)
