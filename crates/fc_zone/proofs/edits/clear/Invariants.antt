use Rattle.std.proofs.Common.{◌≤◌, ◌-◌}
use Rattle.fc_bytes.specs.Bits.{AreZero, SameOutside, bits}
use Rattle.fc_zone.proofs.edits.clear.Given as goal

abbrev pub invariant-loop-at : goal.invariant-loop-at
invariant-loop-at l = record {
  onward : l.from ≤ l.at;
  inside : l.at ≤ l.end;
  zeros : AreZero (bits l.b) l.from l.at;
  same : SameOutside (bits l.initial.b) (bits l.b) l.from l.at;
}

abbrev pub decreases-loop-at : goal.decreases-loop-at
decreases-loop-at l = l.end - l.at
