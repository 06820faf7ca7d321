use Rattle.std.proofs.Common.{List, ◌≤◌}
use Rattle.fc_newmap.specs.Map.{ZoneRun}
use Rattle.fc_newmap.specs.Walk.{StandsBefore, bits_left}
use Rattle.fc_newmap.proofs.walk.Walk.next.Given as goal

abbrev pub invariant-loop-run : goal.invariant-loop-run
invariant-loop-run l = record {
  stands : (left : List ZoneRun) → StandsBefore l.map left l.initial.self → StandsBefore l.map left l.self;
  onward : bits_left l.self ≤ bits_left l.initial.self;
}

abbrev pub decreases-loop-run : goal.decreases-loop-run
decreases-loop-run l = l.self.more
