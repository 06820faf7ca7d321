use Rattle.std.proofs.Common.{ℕ, List, filter, sym, ap₂, subst, ◌∙◌}
use Rattle.std.specs.Prelude.{AllPairs}
use Rattle.fc_newmap.specs.Map.{Map, all_runs, hole_runs, id_runs, runs_of}
use Rattle.fc_newmap.specs.Edits.{AreEdits, KeepsRuns}
use Rattle.fc_newmap.proofs.ComposeLemmas.{edits_join}
use Rattle.fc_image.specs.effects.Placed.{BeginsBefore}
use Rattle.fc_image.specs.effects.Steady.{holes_with, zone_holes}
use Rattle.fc_plan.specs.declared.plan.Part.{Part}
use Rattle.fc_plan.specs.declared.plan.Plan.{Plan}
use Rattle.fc_plan.specs.Giving.{has_run_of, is_given, stays_given}
use Rattle.fc_plan.specs.Parts.{KeepsZones, fronts}
use Rattle.std.specs.List.{list_any}
use Rattle.fc_writing.specs.Steps.{AreTaken, CanTakeAll, is_changed}
use Rattle.fc_writing.proofs.StepLemmas.{can_rooted, in_zone, step_moved, step_zones}
use Rattle.fc_writing.proofs.steps.edit.Goals as goal

pub take_all-requires-clause-map : goal.take_all-requires-clause-map
take_all-requires-clause-map c = c.place_root.ensures.runs.map

pub take_all-requires-clause-plans : goal.take_all-requires-clause-plans
take_all-requires-clause-plans c =
    subst (λ (ps : List Plan). CanTakeAll c.place_root.new.map.geometry (hole_runs c.place_root.new.map) ps) (sym c.deref.ensures.value)
    (can_rooted c.args.map.now c.place_root.new.map c.args.step.now.plans.items c.place_root.ensures.runs c.requires.can.plans)

pub give_back-requires : goal.give_back-requires
give_back-requires c = record { rising = subst (λ (ps : List Part). AllPairs BeginsBefore (fronts ps)) (sym c.deref-3.ensures.value) c.requires.can.kept }

pub returns-clause-edits : goal.returns-clause-edits
returns-clause-edits c =
    subst (λ (first : Map). AreEdits first c.give_back.new.map) c.place_root.ensures.map
    (edits_join c.place_root.new.map c.take_all.new.map c.give_back.new.map c.take_all.ensures.edits c.give_back.ensures.edits)

pub returns-clause-moved : goal.returns-clause-moved
returns-clause-moved c =
    let s = c.args.step.now in
    let first = c.place_root.new.map in
    let taken = c.take_all.new.map in
    let new = c.give_back.new.map in
    step_moved c.args.map.now first taken new s.plans.items s.gone.items s.kept.items c.place_root.ensures.runs c.take_all.ensures.edits
    (subst (λ (ps : List Plan). AreTaken first ps taken) c.deref.ensures.value c.take_all.ensures.taken)
    (λ z low. c.give_back.ensures.holes z low
    ∙ ap₂ (λ (ids : List ℕ) (ks : List Part). holes_with (zone_holes (hole_runs taken) z) (zone_holes (filter (is_given ids (fronts ks)) (all_runs taken)) z)) c.deref-2.ensures.value c.deref-3.ensures.value)
    (λ id. c.give_back.ensures.of_ids id ∙ ap₂ (λ (ids : List ℕ) (ks : List Part). filter (stays_given ids (fronts ks)) (id_runs taken id)) c.deref-2.ensures.value c.deref-3.ensures.value)

pub returns-clause-runs : goal.returns-clause-runs
returns-clause-runs c = subst (λ (first : Map). KeepsRuns c.args.map.now first) c.place_root.ensures.map c.place_root.ensures.runs

pub returns-clause-zones : goal.returns-clause-zones
returns-clause-zones c =
    let s = c.args.step.now in
    let first = c.place_root.new.map in
    let taken = c.take_all.new.map in
    let new = c.give_back.new.map in
    subst (λ (f : Map). KeepsZones (is_changed c.args.map.now s.plans.items s.gone.items) f new) c.place_root.ensures.map
    (step_zones c.args.map.now first taken new s.plans.items s.gone.items s.kept.items c.place_root.ensures.runs c.take_all.ensures.edits
    (subst (λ (ps : List Plan). KeepsZones (λ z. list_any (in_zone z) ps) first taken) c.deref.ensures.value c.take_all.ensures.zones)
    (subst (λ (ids : List ℕ). KeepsZones (λ z. has_run_of ids (runs_of taken z)) taken new) c.deref-2.ensures.value c.give_back.ensures.zones))
