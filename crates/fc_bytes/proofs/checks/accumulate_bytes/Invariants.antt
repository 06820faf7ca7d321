use Rattle.std.proofs.Common.{◌≡◌, drop}
use Rattle.std.specs.List.{fold}
use Rattle.fc_bytes.specs.Checks.{accumulate}
use Rattle.fc_bytes.proofs.checks.accumulate_bytes.Given as goal

-- with the bytes that are left the whole is taken in
abbrev pub invariant-loop-byte : goal.invariant-loop-byte
invariant-loop-byte l = fold accumulate l.sum (drop l.byte-index l.bytes) ≡ fold accumulate l.fn.sum l.bytes
