use Rattle.std.proofs.Common.{ℕ, arith}
use Rattle.std.proofs.lemmas.List.{length-take}
use Rattle.fc_bytes.proofs.checks.old_check.Goals as goal

pub slice_bounds-byte_sum-end : goal.slice_bounds-byte_sum-end
slice_bounds-byte_sum-end c = omega (arith, length-take {A = ℕ}, c.requires)
