use Rattle.std.proofs.Common.{◌≡◌, ◌+◌, List}
use Rattle.fc_newmap.specs.Map.{ZoneRun, bits_in, id_runs}
use Rattle.fc_compact.specs.Listed.{StandsIn, zones_left}
use Rattle.fc_compact.proofs.listed.bits_found.Given as goal

abbrev pub invariant-loop-run : goal.invariant-loop-run
invariant-loop-run l = (left : List ZoneRun) × (StandsIn l.map left l.runs × (l.total + bits_in left ≡ bits_in (id_runs l.map l.id)))

abbrev pub decreases-loop-run : goal.decreases-loop-run
decreases-loop-run l = zones_left l.runs
