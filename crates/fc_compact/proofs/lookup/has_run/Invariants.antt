use Rattle.std.proofs.Common.{◌≡◌, ◌++◌, List, false}
use Rattle.std.specs.List.{list_any}
use Rattle.fc_zone.specs.declared.Run.{Run}
use Rattle.fc_newmap.specs.Map.{has_id, runs_of}
use Rattle.fc_newmap.specs.RunsLaw.{placed}
use Rattle.fc_newmap.specs.Walk.{StandsBefore, bits_left}
use Rattle.fc_compact.proofs.lookup.has_run.Given as goal

abbrev pub invariant-loop-run : goal.invariant-loop-run
invariant-loop-run l = record {
  done : List Run;
  left : List Run;
  cut : runs_of l.map l.z ≡ done ++ left;
  stands : StandsBefore l.map (placed l.z left) l.walk;
  none : list_any (λ (run : Run). has_id l.id run.kind) done ≡ false;
}

abbrev pub decreases-loop-run : goal.decreases-loop-run
decreases-loop-run l = bits_left l.walk
