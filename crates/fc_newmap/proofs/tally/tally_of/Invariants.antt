use Rattle.std.proofs.Common.{◌≡◌, ◌++◌, List}
use Rattle.fc_newmap.specs.Map.{ZoneRun, all_runs}
use Rattle.fc_newmap.specs.Walk.{StandsBefore, bits_left}
use Rattle.fc_newmap.proofs.TallyPassLemmas.{CountsRuns}
use Rattle.fc_newmap.proofs.tally.tally_of.Given as goal

abbrev pub invariant-loop-z : goal.invariant-loop-z
invariant-loop-z l = (passed left : List ZoneRun) × StandsBefore l.map left l.walk × (passed ++ left ≡ all_runs l.map) × CountsRuns l.map passed l.rows.items

abbrev pub decreases-loop-z : goal.decreases-loop-z
decreases-loop-z l = bits_left l.walk
