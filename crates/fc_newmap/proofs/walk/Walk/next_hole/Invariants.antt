use Rattle.std.proofs.Common.{◌≡◌, ◌≤◌, List}
use Rattle.fc_newmap.specs.Map.{ZoneRun}
use Rattle.fc_newmap.specs.Walk.{StandsBefore, bits_left, holes_in}
use Rattle.fc_newmap.proofs.walk.Walk.next_hole.Given as goal

abbrev pub invariant-loop-run : goal.invariant-loop-run
invariant-loop-run l = record {
  stands : (left : List ZoneRun) → StandsBefore l.map left l.initial.self → (now : List ZoneRun) × ((holes_in left ≡ holes_in now) × StandsBefore l.map now l.self);
  onward : bits_left l.self ≤ bits_left l.initial.self;
}

abbrev pub decreases-loop-run : goal.decreases-loop-run
decreases-loop-run l = l.self.more
