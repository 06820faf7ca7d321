use Rattle.std.proofs.Common.{◌≡◌, ◌≤◌, ◌-◌, List}
use Rattle.fc_zone.specs.declared.Run.{Run}
use Rattle.fc_zone.specs.Cursor.{StandsBetween}
use Rattle.fc_reclaim.proofs.PastLemmas.{HasPassed}
use Rattle.fc_reclaim.proofs.zone.past_holes.Given as goal

abbrev pub invariant-loop-next : goal.invariant-loop-next
invariant-loop-next l = record {
  same : l.ahead ≡ l.past;
  passed : (done left : List Run) → StandsBetween l.shape l.b done left l.fn.place → HasPassed l.shape l.b left l.past;
  onward : l.shape.end - l.past.at ≤ l.shape.end - l.fn.place.at;
  past : l.fn.place.at ≤ l.past.at;
}

abbrev pub decreases-loop-next : goal.decreases-loop-next
decreases-loop-next l = l.shape.end - l.ahead.at
