use Rattle.std.proofs.Common.{◌≡◌, ◌++◌, List}
use Rattle.fc_zone.specs.declared.Run.{Run}
use Rattle.fc_newmap.specs.Map.{runs_of}
use Rattle.fc_newmap.specs.RunsLaw.{placed}
use Rattle.fc_newmap.specs.Walk.{StandsBefore, bits_left}
use Rattle.fc_compact.specs.Candidates.{AreFoundIn}
use Rattle.fc_compact.proofs.candidates.Candidates.see_zone.Given as goal

abbrev pub invariant-loop-run : goal.invariant-loop-run
invariant-loop-run l = record {
  ids : l.self.ids ≡ l.fn.self.ids;
  done : List Run;
  left : List Run;
  cut : runs_of l.map l.z ≡ done ++ left;
  stands : StandsBefore l.map (placed l.z left) l.walk;
  found : AreFoundIn l.map l.z done l.self;
}

abbrev pub decreases-loop-run : goal.decreases-loop-run
decreases-loop-run l = bits_left l.walk
