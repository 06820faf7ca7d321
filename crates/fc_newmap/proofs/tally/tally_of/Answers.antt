use Rattle.std.proofs.Common.{◌++◌, ◌∷◌, [], ◌∙◌, replicate, subst, sym, refl, ap}
use Rattle.fc_record.specs.declared.Geometry.{Geometry}
use Rattle.fc_newmap.specs.Map.{ZoneRun, all_runs}
use Rattle.fc_newmap.specs.NewMap.{IsOfRecord}
use Rattle.fc_newmap.specs.Tally.{no_runs}
use Rattle.fc_newmap.proofs.TallyPassLemmas.{all_counted, has_room, none_counted, one_counted, walked_on}
use Rattle.fc_newmap.proofs.tally.tally_of.Goals as goal

pub id_limit-requires : goal.id_limit-requires
id_limit-requires c = let is = c.geometry-g.ensures.map in subst IsOfRecord (sym c.geometry-g.ensures.value) is.of_record

pub loop-z-init : goal.loop-z-init
loop-z-init c = (
  [],
  all_runs c.args.map.now,
  c.over_all-walk.ensures.stands,
  refl,
  none_counted c.args.map.now _ c.in_ok-rows.rows.items (c.in_ok-rows.ensures.items_if_clones_equal (λ y e. e) ∙ ap (replicate _) (c.no_runs.ensures ∙ ap no_runs c.geometry-g.ensures.value)),
)

pub count_run-requires-clause-record : goal.count_run-requires-clause-record
count_run-requires-clause-record c = let is = c.geometry-g.ensures.map in subst IsOfRecord (sym c.geometry-g.ensures.value) is.of_record

pub count_run-requires-clause-room : goal.count_run-requires-clause-room
count_run-requires-clause-room c =
    let so_far = c.loop-z.invariant in
    let run : ZoneRun = (c.in-Some.z, c.in-Some.run') in
    let step = c.in-Some.ensures.value so_far.1 so_far.2 in
    let same = ap (λ (g : Geometry). g.zones) c.geometry-g.ensures.value in
    has_room c.args.map.now so_far.0 so_far.1 step.0 run c.geometry-g.result.now c.loop-z.rows.items c.geometry-g.ensures.map c.geometry-g.ensures.value so_far.3 step.1.0 so_far.4

pub loop-z-preserved : goal.loop-z-preserved
loop-z-preserved c =
    let so_far = c.loop-z.invariant in
    let run : ZoneRun = (c.in-Some.z, c.in-Some.run') in
    let step = c.in-Some.ensures.value so_far.1 so_far.2 in (
      so_far.0 ++ run ∷ [],
      step.0,
      step.1.1,
      walked_on so_far.0 so_far.1 step.0 (all_runs c.args.map.now) run so_far.3 step.1.0,
      one_counted c.args.map.now so_far.0 so_far.1 step.0 run c.geometry-g.result.now c.loop-z.rows.items c.count_run.new.rows.items c.geometry-g.ensures.map so_far.3 step.1.0 c.in-Some.ensures.within.zone c.geometry-g.ensures.value c.count_run.ensures so_far.4,
    )

pub returns : goal.returns
returns c =
    let so_far = c.loop-z.invariant in
    let end = c.in_default.ensures.value so_far.1 so_far.2 in
    all_counted c.args.map.now so_far.0 so_far.1 c.loop-z.rows.items c.geometry-g.ensures.map end.0 so_far.3 so_far.4
