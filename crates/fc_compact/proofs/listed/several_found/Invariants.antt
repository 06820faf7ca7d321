use Rattle.std.proofs.Common.{◌≡◌, ◌<◌, ◌≤◌, ◌++◌, List, length, true, false}
use Rattle.fc_newmap.specs.Map.{ZoneRun, bits_in, id_runs}
use Rattle.fc_compact.specs.Listed.{StandsIn, zones_left}
use Rattle.fc_compact.proofs.listed.several_found.Given as goal

abbrev pub invariant-loop-run : goal.invariant-loop-run
invariant-loop-run l = record {
  left : List ZoneRun;
  passed : List ZoneRun;
  stands : StandsIn l.map left l.runs;
  cut : id_runs l.map l.id ≡ passed ++ left;
  sum : l.total ≡ bits_in passed;
  most : l.total ≤ l.most;
  some : l.seen ≡ true → 0 < length passed;
  none : l.seen ≡ false → length passed ≡ 0;
  more : l.several ≡ true → 1 < length passed;
  fewer : l.several ≡ false → length passed ≤ 1;
}

abbrev pub decreases-loop-run : goal.decreases-loop-run
decreases-loop-run l = zones_left l.runs
