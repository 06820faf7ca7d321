use Rattle.std.proofs.Common.{Option, ap, sym, ◌∙◌}
use Rattle.fc_newmap.specs.Map.{hole_runs, runs_of}
use Rattle.fc_newmap.proofs.ComposeLemmas.{edits_none}
use Rattle.fc_image.specs.effects.Placed.{holes_left}
use Rattle.fc_plan.specs.Applied.{id_in, parts_in}
use Rattle.fc_plan.specs.Taking.{runs_taken}
use Rattle.fc_plan.specs.declared.plan.Plan.{Plan}
use Rattle.fc_plan.proofs.Applies.{no_plan}
use Rattle.fc_plan.proofs.Left.{left_of_none}
use Rattle.fc_plan.proofs.TakenRuns.{taken_none}
use Rattle.fc_plan.proofs.applying.take_plan.Goals as goal

pub returns-in_default-clause-edits : goal.returns-in_default-clause-edits
returns-in_default-clause-edits c = edits_none c.args.map.now c.requires.map

pub returns-in_default-clause-runs : goal.returns-in_default-clause-runs
returns-in_default-clause-runs c = λ z low.
    let none = no_plan c.args.plan (λ p e. c.in_default.not-Some p e) in
    sym (taken_none 0 z (runs_of c.args.map.now z)) ∙ ap (λ (o : Option Plan). runs_taken (id_in o) (parts_in o) z (runs_of c.args.map.now z)) (sym none)

pub returns-in_default-clause-holes : goal.returns-in_default-clause-holes
returns-in_default-clause-holes c =
    let none = no_plan c.args.plan (λ p e. c.in_default.not-Some p e) in
    sym (left_of_none (hole_runs c.args.map.now)) ∙ ap (λ (o : Option Plan). holes_left (hole_runs c.args.map.now) (parts_in o)) (sym none)
