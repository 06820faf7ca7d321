use Rattle.std.proofs.Common.{◌≡◌, ◌≤◌, ◌/◌, map, drop}
use Rattle.fc_bytes.specs.Bits.{num}
use Rattle.fc_smalldir.proofs.entry.top_bits.Given as goal

abbrev pub invariant-loop-i : goal.invariant-loop-i
invariant-loop-i l = (l.i ≤ 10) × (l.tops ≡ num (map (λ c. c / 128) (drop l.i l.field)))

abbrev pub decreases-loop-i : goal.decreases-loop-i
decreases-loop-i l = l.i
