use Rattle.std.proofs.Common.{◌-◌, List}
use Rattle.fc_bytes.specs.Bits.{bits}
use Rattle.fc_zone.specs.declared.Run.{Run}
use Rattle.fc_zone.proofs.ZoneLemmas.{IsRead}
use Rattle.fc_zone.proofs.reading.check_zone.Given as goal

abbrev pub invariant-loop-at : goal.invariant-loop-at
invariant-loop-at l = (runs : List Run) × IsRead l.shape (bits l.b) l.at l.hole runs

abbrev pub decreases-loop-at : goal.decreases-loop-at
decreases-loop-at l = l.shape.end - l.at
