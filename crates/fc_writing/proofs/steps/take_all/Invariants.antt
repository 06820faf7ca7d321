use Rattle.std.proofs.Common.{drop, take}
use Rattle.std.specs.List.{list_any}
use Rattle.fc_newmap.specs.Edits.{AreEdits}
use Rattle.fc_newmap.specs.Map.{hole_runs}
use Rattle.fc_plan.specs.Parts.{KeepsZones}
use Rattle.fc_writing.specs.Steps.{AreTaken, CanTakeAll}
use Rattle.fc_writing.proofs.StepLemmas.{in_zone}
use Rattle.fc_writing.proofs.steps.take_all.Given as goal

abbrev pub invariant-loop-plan : goal.invariant-loop-plan
invariant-loop-plan l = record {
  edits : AreEdits l.fn.map l.map;
  taken : AreTaken l.fn.map (take l.plan-index l.plans) l.map;
  can : CanTakeAll l.map.geometry (hole_runs l.map) (drop l.plan-index l.plans);
  zones : KeepsZones (λ z. list_any (in_zone z) (take l.plan-index l.plans)) l.fn.map l.map;
}
