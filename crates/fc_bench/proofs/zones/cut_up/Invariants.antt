use Rattle.std.specs.Option.{IfSome}
use Rattle.fc_zone.specs.Zone.{HasRun, IsZone}
use Rattle.fc_zone.proofs.WalkLemmas.{bits_left}
use Rattle.fc_bench.proofs.zones.cut_up.Given as goal

abbrev pub invariant-loop-at : goal.invariant-loop-at
invariant-loop-at l = record { zone : IsZone l.shape l.b; run : IfSome l.at (HasRun l.shape l.b) }

abbrev pub decreases-loop-at : goal.decreases-loop-at
decreases-loop-at l = bits_left l.shape.end l.at
