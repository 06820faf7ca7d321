use Rattle.std.proofs.Common.{◌≡◌, List}
use Rattle.std.specs.List.{list_any}
use Rattle.fc_newmap.specs.Map.{ZoneRun, runs_of}
use Rattle.fc_newmap.specs.Walk.{StandsBefore, bits_left}
use Rattle.fc_plan.specs.Giving.{has_run_of}
use Rattle.fc_plan.proofs.Changes.{goes}
use Rattle.fc_plan.proofs.changing.meets_run_of.Given as goal

abbrev pub invariant-loop-run : goal.invariant-loop-run
invariant-loop-run l = (left : List ZoneRun) × StandsBefore l.map left l.walk × (list_any (goes l.ids) left ≡ has_run_of l.ids (runs_of l.map l.z))

abbrev pub decreases-loop-run : goal.decreases-loop-run
decreases-loop-run l = bits_left l.walk
