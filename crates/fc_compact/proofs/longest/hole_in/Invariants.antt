use Rattle.std.proofs.Common.{◌≡◌, ◌++◌, List}
use Rattle.std.specs.Prelude.{Contains}
use Rattle.fc_newmap.specs.Map.{ZoneRun}
use Rattle.fc_newmap.specs.Walk.{StandsBefore, bits_left, holes_in}
use Rattle.fc_compact.specs.Longest.{holes_of}
use Rattle.fc_compact.proofs.longest.hole_in.Given as goal

abbrev pub invariant-loop-zone : goal.invariant-loop-zone
invariant-loop-zone l = record {
  done : List ZoneRun;
  left : List ZoneRun;
  stands : StandsBefore l.map left l.walk;
  cut : holes_of l.map l.z ≡ done ++ holes_in left;
  none : (p : ZoneRun) → Contains done p → p.1.len ≡ l.len → ⊥;
}

abbrev pub decreases-loop-zone : goal.decreases-loop-zone
decreases-loop-zone l = bits_left l.walk
