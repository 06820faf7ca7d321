use Rattle.std.proofs.Common.{List, ◌≤◌}
use Rattle.fc_newmap.specs.Map.{ZoneRun}
use Rattle.fc_newmap.specs.Walk.{StandsAt, bits_left}
use Rattle.fc_newmap.proofs.runs.RunCursor.next.Given as goal

abbrev pub invariant-loop-z : goal.invariant-loop-z
invariant-loop-z l = record {
  stands : (left : List ZoneRun) → StandsAt l.map left l.initial.self → StandsAt l.map left l.self;
  onward : bits_left l.self.walk ≤ bits_left l.initial.self.walk;
}

abbrev pub decreases-loop-z : goal.decreases-loop-z
decreases-loop-z l = bits_left l.self.walk
