use Rattle.std.proofs.Common.{◌≡◌, ◌+◌, ◌*◌, map, slice_index}
use Rattle.std.specs.List.{range_with_len}
use Rattle.fc_bytes.specs.Checks.{xor_all}
use Rattle.fc_bytes.proofs.checks.cross_total.Given as goal

-- the exclusive or of what is before
abbrev pub invariant-loop-z : goal.invariant-loop-z
invariant-loop-z l = l.total ≡ xor_all (map (λ z. slice_index l.map (z * l.sector + 3)) (range_with_len 0 l.z))
