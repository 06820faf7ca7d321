use Rattle.std.proofs.Common.{◌≤◌, ◌+◌, ◌*◌, List, length}
use Rattle.std.specs.Prelude.{filter}
use Rattle.fc_newmap.specs.Map.{ZoneRun, all_runs, bits_in, hole_runs}
use Rattle.fc_newmap.specs.Walk.{StandsBefore, bits_left}
use Rattle.fc_check.specs.Space.{is_lost_kind}
use Rattle.fc_check.proofs.SumLemmas.{Come}
use Rattle.fc_check.proofs.space.new_counts.Given as goal

abbrev pub invariant-loop-run : goal.invariant-loop-run
invariant-loop-run l = record {
  stands : (left : List ZoneRun) × (StandsBefore l.map left l.walk
      × Come l.owners l.sums left (length (hole_runs l.map)) (bits_in (hole_runs l.map)) (bits_in (filter (λ p. is_lost_kind l.owners p.1.kind) (all_runs l.map))));
  room : l.sums.free + l.sums.lost + bits_left l.walk ≤ 8192 * l.map.geometry.zones;
  some : l.sums.holes ≤ l.sums.free;
}

abbrev pub decreases-loop-run : goal.decreases-loop-run
decreases-loop-run l = bits_left l.walk
