use Rattle.std.proofs.Common.{◌+◌, List, drop, refl, sym, ap, subst, ◌∙◌, arith}
use Rattle.std.proofs.lemmas.List.{take_all}
use Rattle.fc_newmap.specs.Map.{ZoneRun, hole_runs}
use Rattle.fc_newmap.proofs.ComposeLemmas.{edits_join, edits_none}
use Rattle.fc_record.specs.declared.Geometry.{Geometry}
use Rattle.fc_image.specs.effects.Placed.{holes_left}
use Rattle.fc_plan.specs.declared.plan.Part.{Part}
use Rattle.fc_plan.specs.declared.plan.Plan.{Plan}
use Rattle.fc_plan.specs.Parts.{KeepsZones, fronts, has_part}
use Rattle.fc_plan.specs.Plan.{AreParts}
use Rattle.fc_changes.specs.Space.{HasTaken}
use Rattle.fc_writing.specs.Steps.{AreTaken, CanTakeAll}
use Rattle.fc_writing.proofs.StepLemmas.{take_next, taken_then, zones_more}
use Rattle.fc_writing.proofs.steps.take_all.Goals as goal

pub loop-plan-init : goal.loop-plan-init
loop-plan-init c = record {
  edits = edits_none c.args.map.now c.requires.map;
  taken = refl;
  can = c.requires.plans;
  zones = λ z none. refl;
}

pub take-requires-clause-parts : goal.take-requires-clause-parts
take-requires-clause-parts c =
    let next = take_next c.loop-plan.map.geometry (hole_runs c.loop-plan.map) c.args.plans.now c.loop-plan.plan-index c.plan-item.result c.loop-plan-test.true c.plan-item.is c.loop-plan.invariant.can in
    subst (λ (ps : List Part). AreParts c.loop-plan.map.geometry (hole_runs c.loop-plan.map) (fronts ps)) (sym c.deref.ensures.value) next.0.cut

pub take-requires-clause-map : goal.take-requires-clause-map
take-requires-clause-map c = c.loop-plan.invariant.edits.map

pub take-requires-clause-some_id : goal.take-requires-clause-some_id
take-requires-clause-some_id c =
    (take_next c.loop-plan.map.geometry (hole_runs c.loop-plan.map) c.args.plans.now c.loop-plan.plan-index c.plan-item.result c.loop-plan-test.true c.plan-item.is c.loop-plan.invariant.can).0.some

pub take-requires-clause-id_fits : goal.take-requires-clause-id_fits
take-requires-clause-id_fits c =
    (take_next c.loop-plan.map.geometry (hole_runs c.loop-plan.map) c.args.plans.now c.loop-plan.plan-index c.plan-item.result c.loop-plan-test.true c.plan-item.is c.loop-plan.invariant.can).0.fits

pub loop-plan-preserved : goal.loop-plan-preserved
loop-plan-preserved c =
    let m = c.args.map.now in
    let mid = c.loop-plan.map in
    let new = c.take.new.map in
    let plans = c.args.plans.now in
    let i = c.loop-plan.plan-index in
    let p = c.plan-item.result in
    let low = c.loop-plan-test.true in
    let inv = c.loop-plan.invariant in
    let next = take_next mid.geometry (hole_runs mid) plans i p low c.plan-item.is inv.can in
    record {
      edits = edits_join m mid new inv.edits c.take.ensures.edits;
      taken = taken_then m mid new plans i p low c.plan-item.is inv.taken c.take.ensures.edits.map
          (subst (λ (ps : List Part). HasTaken mid new p.id (fronts ps)) c.deref.ensures.value
          (record { geometry = c.take.ensures.edits.geometry; runs = c.take.ensures.runs; holes = c.take.ensures.holes; own = c.take.ensures.own; gained = c.take.ensures.gained; others = c.take.ensures.others }));
      can = subst (λ (g : Geometry). CanTakeAll g (hole_runs new) (drop (i + 1) plans)) (sym c.take.ensures.edits.geometry)
          (subst (λ (hs : List ZoneRun). CanTakeAll mid.geometry hs (drop (i + 1) plans)) (sym (c.take.ensures.holes ∙ ap (λ (ps : List Part). holes_left (hole_runs mid) (fronts ps)) c.deref.ensures.value)) next.1);
      zones = zones_more m mid new plans i p low c.plan-item.is inv.zones
          (subst (λ (ps : List Part). KeepsZones (has_part (fronts ps)) mid new) c.deref.ensures.value c.take.ensures.zones);
    }

pub returns-clause-taken : goal.returns-clause-taken
returns-clause-taken c = subst (λ (ps : List Plan). AreTaken c.args.map.now ps c.loop-plan.map) (take_all c.loop-plan.plan-index c.args.plans.now (omega (arith, c.loop-plan-test.false))) c.loop-plan.invariant.taken
