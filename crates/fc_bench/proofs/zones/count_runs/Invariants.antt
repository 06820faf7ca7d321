use Rattle.std.proofs.Common.{◌-◌, List}
use Rattle.fc_zone.specs.declared.Run.{Run}
use Rattle.fc_zone.specs.Cursor.{StandsBetween}
use Rattle.fc_bench.proofs.zones.count_runs.Given as goal

abbrev pub invariant-loop-count : goal.invariant-loop-count
invariant-loop-count l = (done left : List Run) × StandsBetween l.shape l.b done left l.cursor

abbrev pub decreases-loop-count : goal.decreases-loop-count
decreases-loop-count l = l.shape.end - l.cursor.at
