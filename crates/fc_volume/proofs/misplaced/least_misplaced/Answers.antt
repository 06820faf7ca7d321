use Rattle.std.proofs.Common.{◌++◌, ◌∷◌, [], List, refl, sym, ap, subst, ◌∙◌}
use Rattle.std.specs.Prelude.{◌&&◌, ◌||◌}
use Rattle.std.proofs.lemmas.List.{append_assoc, append-nil}
use Rattle.fc_newmap.specs.Map.{ZoneRun, all_runs}
use Rattle.fc_volume.specs.Misplaced.{IsLeast, is_in_loose, is_in_some_loose, lies_in}
use Rattle.fc_volume.proofs.MisplacedLemmas.{no_run, run_more}
use Rattle.fc_volume.proofs.misplaced.least_misplaced.Goals as goal

pub loop-z-init : goal.loop-z-init
loop-z-init c = ([], all_runs c.args.map.now, refl, c.over_all-walk.ensures.stands, no_run (λ s. lies_in c.args.rows.0 s && lies_in c.args.rows.1 s) _ c.first_common-least.ensures)

pub loop-z-preserved : goal.loop-z-preserved
loop-z-preserved c =
    let before = c.loop-z.invariant in
    let p : ZoneRun = (c.in-Some.z, c.in-Some.run') in
    let r = c.in-Some.ensures.value before.1 before.3 in
    let g = c.args.map.now.geometry in (
      before.0 ++ p ∷ [],
      r.0,
      before.2 ∙ ap (λ (l : List ZoneRun). before.0 ++ l) r.1.0 ∙ sym (append_assoc before.0 (p ∷ []) r.0),
      r.1.1,
      run_more (λ s. lies_in c.args.rows.0 s && lies_in c.args.rows.1 s) c.args.owners.now g c.args.rows.0 c.args.rows.1 before.0 p _
          (c.lesser-least.ensures (λ s. (lies_in c.args.rows.0 s && lies_in c.args.rows.1 s) || is_in_some_loose c.args.owners.now g c.args.rows.0 c.args.rows.1 before.0 s)
          (λ s. is_in_loose c.args.owners.now g c.args.rows.0 c.args.rows.1 p s) before.4 c.least_in_run.ensures),
    )

pub returns : goal.returns
returns c =
    let done = c.loop-z.invariant in
    let none = c.in_default.ensures.value done.1 done.3 in
    let all = done.2 ∙ ap (λ (l : List ZoneRun). done.0 ++ l) none.0 ∙ append-nil done.0 in
    subst (λ (runs : List ZoneRun). IsLeast (λ s. (lies_in c.args.rows.0 s && lies_in c.args.rows.1 s) || is_in_some_loose c.args.owners.now c.args.map.now.geometry c.args.rows.0 c.args.rows.1 runs s) c.loop-z.least) (sym all) done.4
