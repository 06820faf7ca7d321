use Rattle.std.proofs.Common.{◌≡◌, take}
use Rattle.fc_newmap.specs.Edits.{KeepsRuns}
use Rattle.fc_newmap.specs.Committing.{KeepsContents}
use Rattle.fc_newmap.specs.Copies.{sealed_zones}
use Rattle.fc_newmap.proofs.copies.committing.seal_zones.Given as goal

abbrev pub invariant-loop-z : goal.invariant-loop-z
invariant-loop-z l = record {
  map : l.map ≡ record l.fn.map { zones = sealed_zones (take l.z-index l.changed) l.fn.map.zones };
  runs : KeepsRuns l.fn.map l.map;
  contents : KeepsContents l.fn.map l.map;
}
