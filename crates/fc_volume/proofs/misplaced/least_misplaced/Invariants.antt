use Rattle.std.proofs.Common.{◌≡◌, ◌++◌, List}
use Rattle.std.specs.Prelude.{◌&&◌, ◌||◌}
use Rattle.fc_newmap.specs.Map.{ZoneRun, all_runs}
use Rattle.fc_newmap.specs.Walk.{StandsBefore, bits_left}
use Rattle.fc_volume.specs.Misplaced.{IsLeast, is_in_some_loose, lies_in}
use Rattle.fc_volume.proofs.misplaced.least_misplaced.Given as goal

-- of the runs so far it is the least
abbrev pub invariant-loop-z : goal.invariant-loop-z
invariant-loop-z l =
    (done left : List ZoneRun) × (all_runs l.map ≡ done ++ left) × StandsBefore l.map left l.walk
    × IsLeast (λ s. (lies_in l.rows.0 s && lies_in l.rows.1 s) || is_in_some_loose l.owners l.map.geometry l.rows.0 l.rows.1 done s) l.least

abbrev pub decreases-loop-z : goal.decreases-loop-z
decreases-loop-z l = bits_left l.walk
