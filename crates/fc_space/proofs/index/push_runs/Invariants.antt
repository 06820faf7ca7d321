use Rattle.std.proofs.Common.{◌≡◌, ◌++◌, List}
use Rattle.std.specs.Prelude.{All}
use Rattle.fc_newmap.specs.Map.{ZoneRun, all_runs}
use Rattle.fc_newmap.specs.Walk.{StandsBefore, bits_left}
use Rattle.fc_space.specs.Index.{IsLow, rows_with}
use Rattle.fc_space.proofs.index.push_runs.Given as goal

-- the rows of the runs so far
abbrev pub invariant-loop-z : goal.invariant-loop-z
invariant-loop-z l = record {
  met : (done left : List ZoneRun) × (all_runs l.map ≡ done ++ left) × StandsBefore l.map left l.walk × (l.rows.items ≡ l.fn.rows.items ++ rows_with l.map.geometry l.ahead done);
  low : All IsLow l.fn.rows.items → All IsLow l.rows.items;
}

abbrev pub decreases-loop-z : goal.decreases-loop-z
decreases-loop-z l = bits_left l.walk
