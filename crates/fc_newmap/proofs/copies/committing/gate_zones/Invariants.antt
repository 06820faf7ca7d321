use Rattle.std.proofs.Common.{◌≡◌, length, take}
use Rattle.std.specs.List.{zip}
use Rattle.fc_newmap.specs.Edits.{KeepsRuns}
use Rattle.fc_newmap.specs.Committing.{KeepsContents}
use Rattle.fc_newmap.specs.Gate.{gate_deltas, gated_by}
use Rattle.fc_newmap.proofs.copies.committing.gate_zones.Given as goal

abbrev pub invariant-loop-i : goal.invariant-loop-i
invariant-loop-i l = record {
  map : l.map ≡ record l.fn.map { zones = gated_by (take l.i (zip l.changed (gate_deltas (length l.changed)))) l.fn.map.zones };
  runs : KeepsRuns l.fn.map l.map;
  contents : KeepsContents l.fn.map l.map;
}
