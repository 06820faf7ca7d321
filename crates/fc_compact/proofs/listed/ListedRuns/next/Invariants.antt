use Rattle.std.proofs.Common.{List, ◌≤◌, ◌-◌, length}
use Rattle.fc_newmap.specs.Map.{ZoneRun}
use Rattle.fc_compact.specs.Listed.{StandsIn, zones_left}
use Rattle.fc_compact.proofs.listed.ListedRuns.next.Given as goal

abbrev pub invariant-loop-run : goal.invariant-loop-run
invariant-loop-run l = record {
  stands : (left : List ZoneRun) → StandsIn l.map left l.initial.self → StandsIn l.map left l.self;
  onward : zones_left l.self ≤ zones_left l.initial.self;
}

abbrev pub decreases-loop-run : goal.decreases-loop-run
decreases-loop-run l = length l.self.zones.items - l.self.come
