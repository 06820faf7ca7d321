use Rattle.std.proofs.Common.{◌≡◌, drop, not}
use Rattle.std.specs.Prelude.{◌==◌}
use Rattle.std.specs.List.{find}
use Rattle.fc_image.specs.Opening.{byte_compared, compared_offsets}
use Rattle.fc_volume.proofs.maps.difference.Given as goal

-- no byte before this one differs
abbrev pub invariant-loop-at : goal.invariant-loop-at
invariant-loop-at l =
    (l.at-items ≡ compared_offsets)
    × (find (λ at. not (byte_compared l.r at == byte_compared l.s at)) compared_offsets ≡ find (λ at. not (byte_compared l.r at == byte_compared l.s at)) (drop l.at-index compared_offsets))
