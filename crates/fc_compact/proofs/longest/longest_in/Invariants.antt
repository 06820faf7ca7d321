use Rattle.std.proofs.Common.{◌≡◌, ◌≤◌, List, max}
use Rattle.std.specs.List.{fold}
use Rattle.fc_newmap.specs.Map.{ZoneRun}
use Rattle.fc_newmap.specs.Walk.{StandsBefore, bits_left, holes_in}
use Rattle.fc_compact.specs.Longest.{longest_in}
use Rattle.fc_compact.proofs.longest.longest_in.Given as goal

abbrev pub invariant-loop-hole : goal.invariant-loop-hole
invariant-loop-hole l = record {
  stands : (left : List ZoneRun) × (StandsBefore l.map left l.walk × (fold (λ n (p : ZoneRun). max n p.1.len) l.most (holes_in left) ≡ longest_in l.map l.z));
  short : l.most ≤ 8192;
}

abbrev pub decreases-loop-hole : goal.decreases-loop-hole
decreases-loop-hole l = bits_left l.walk
