use Rattle.std.proofs.Common.{◌≡◌, ◌++◌, List, length}
use Rattle.fc_newmap.specs.Map.{ZoneRun, all_runs}
use Rattle.fc_newmap.specs.Walk.{StandsBefore, bits_left}
use Rattle.fc_compact.specs.Candidates.{AreSeen, places}
use Rattle.fc_compact.proofs.counts.see_runs.Given as goal

abbrev pub invariant-loop-run : goal.invariant-loop-run
invariant-loop-run l = record {
  passed : List ZoneRun;
  left : List ZoneRun;
  stands : StandsBefore l.map left l.walk;
  cut : all_runs l.map ≡ passed ++ left;
  size : length l.seen ≡ places;
  seen : AreSeen l.seen passed;
}

abbrev pub decreases-loop-run : goal.decreases-loop-run
decreases-loop-run l = bits_left l.walk
