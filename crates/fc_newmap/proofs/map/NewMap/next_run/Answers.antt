use Rattle.std.proofs.Common.{◌<◌, ℕ, ◌++◌, ◌∙◌, List, ap, subst, refl, sym}
use Rattle.std.specs.Prelude.{filter, slice_get}
use Rattle.fc_record.specs.declared.Geometry.{Geometry}
use Rattle.fc_newmap.specs.Map.{ZoneRun, home_zone, runs_in}
use Rattle.fc_newmap.specs.RunsLaw.{placed}
use Rattle.fc_newmap.specs.Walk.{IsBehind, StandsAt, zone_after, zones_from}
use Rattle.fc_newmap.proofs.HeldLemmas.{geometry_facts}
use Rattle.fc_newmap.proofs.NextLemmas.{RunCut, run_cut, zone_of_run}
use Rattle.fc_newmap.proofs.WalkLemmas.{first_is, of_id}
use Rattle.fc_newmap.proofs.map.NewMap.next_run.Goals as goal
use Rattle.fc_newmap.proofs.map.NewMap.next_run.Goals.{After-zones_behind-more}

pub zones_behind-more-requires-clause-zone : goal.zones_behind-more-requires-clause-zone
zones_behind-more-requires-clause-zone c =
    let is = c.geometry-g.ensures.map in
    let f = geometry_facts c.args.self.now.geometry is.of_record in
    subst (λ (g : Geometry). c.args.at.0 < g.zones) (sym c.geometry-g.ensures.value) (zone_of_run c.args.self.now c.args.id c.args.at f.zones c.requires)

pub behind-walk-requires-clause-zone : goal.behind-walk-requires-clause-zone
behind-walk-requires-clause-zone c =
    let is = c.geometry-g.ensures.map in
    let f = geometry_facts c.args.self.now.geometry is.of_record in
    zone_of_run c.args.self.now c.args.id c.args.at f.zones c.requires

cut : (c : After-zones_behind-more) → RunCut c.args.self.now c.args.id c.args.at c.zones_behind-more.result
cut c =
    let is = c.geometry-g.ensures.map in
    let f = geometry_facts c.args.self.now.geometry is.of_record in
    let home = c.home_zone.ensures.value ∙ ap (λ (g : Geometry). home_zone g c.args.id) c.geometry-g.ensures.value in
    run_cut c.args.self.now c.args.id c.args.at c.zones_behind-more.result f.zones is.right c.requires
    (subst (λ (g : Geometry). IsBehind g (home_zone c.args.self.now.geometry c.args.id) c.args.at.0 c.zones_behind-more.result) c.geometry-g.ensures.value
    (subst (λ (h : ℕ). IsBehind c.geometry-g.result.now h c.args.at.0 c.zones_behind-more.result) home c.zones_behind-more.ensures))

pub behind-walk-requires-clause-run : goal.behind-walk-requires-clause-run
behind-walk-requires-clause-run c = let r = cut (goal.at.behind-walk-requires-clause-run c).After-zones_behind-more in (c.args.at.1, (r.front, r.rest, (refl, r.runs)))

pub next-requires : goal.next-requires
next-requires c =
    let r = cut (goal.at.next-requires c).After-zones_behind-more in
    let left = placed c.args.at.0 r.rest ++ runs_in c.args.self.now (zones_from c.args.self.now.geometry (zone_after c.args.self.now.geometry c.args.at.0) c.zones_behind-more.result) in
    (filter (of_id c.args.id) left, record { all = left; walk = c.behind-walk.ensures r.front r.rest c.args.at.1 refl r.runs; of_id = refl })

pub returns : goal.returns
returns c = λ front rest e.
    let r = cut (goal.at.returns c).After-zones_behind-more in
    let left = placed c.args.at.0 r.rest ++ runs_in c.args.self.now (zones_from c.args.self.now.geometry (zone_after c.args.self.now.geometry c.args.at.0) c.zones_behind-more.result) in
    let stands : StandsAt c.args.self.now (filter (of_id c.args.id) left) (record { id = c.args.id; walk = c.behind-walk.result }) =
    record { all = left; walk = c.behind-walk.ensures r.front r.rest c.args.at.1 refl r.runs; of_id = refl } in
    first_is c.args.self.now (filter (of_id c.args.id) left) c.next.new.self c.next.result (c.next.ensures.value (filter (of_id c.args.id) left) stands)
    ∙ ap (λ (ps : List ZoneRun). slice_get ps 0) (sym (r.later front rest e))
