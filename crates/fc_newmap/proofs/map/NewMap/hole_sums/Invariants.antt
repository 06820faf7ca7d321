use Rattle.std.proofs.Common.{◌≡◌, ◌≤◌, ◌+◌, ◌^◌, List, max}
use Rattle.std.specs.List.{fold}
use Rattle.fc_newmap.specs.Map.{ZoneRun, bits_in, hole_runs, longest}
use Rattle.fc_newmap.specs.Walk.{StandsBefore, bits_left, holes_in}
use Rattle.fc_newmap.proofs.map.NewMap.hole_sums.Given as goal

abbrev pub invariant-loop-run : goal.invariant-loop-run
invariant-loop-run l = record {
  stands : (left : List ZoneRun) × (StandsBefore l.self left l.walk × (l.total + bits_in (holes_in left) ≡ bits_in (hole_runs l.self))
      × (fold (λ n p. max n p.1.len) l.most (holes_in left) ≡ longest (hole_runs l.self)));
  room : l.total + bits_left l.walk ≤ 2 ^ 32;
}

abbrev pub decreases-loop-run : goal.decreases-loop-run
decreases-loop-run l = bits_left l.walk
