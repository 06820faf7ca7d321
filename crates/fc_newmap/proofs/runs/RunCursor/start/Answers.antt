use Rattle.std.proofs.Common.{◌≡◌, ◌<◌, ℕ, ◌∙◌, ap, subst}
use Rattle.fc_record.specs.declared.Geometry.{Geometry}
use Rattle.fc_newmap.specs.Map.{Map, home_zone}
use Rattle.fc_newmap.specs.Walk.{zone_up}
use Rattle.fc_newmap.proofs.AheadLemmas.{start_there, started_search}
use Rattle.fc_newmap.proofs.runs.RunCursor.start.Goals as goal
use Rattle.fc_newmap.proofs.runs.RunCursor.start.Goals.{After-zone_up-first}

at : (c : After-zone_up-first) → c.zone_up-first.result ≡ zone_up c.args.map.now.geometry (home_zone c.args.map.now.geometry c.args.id) c.search-search.result.ahead
at c =
    let m : Map = c.args.map.now in
    let e = c.geometry-g.ensures.value in
    c.zone_up-first.ensures.value ∙ ap (λ (g : Geometry). zone_up g c.home_zone.result c.search-search.result.ahead) e
    ∙ ap (λ (y : ℕ). zone_up m.geometry y c.search-search.result.ahead) (c.home_zone.ensures.value ∙ ap (λ (g : Geometry). home_zone g c.args.id) e)

pub before_first-walk-requires-clause-start : goal.before_first-walk-requires-clause-start
before_first-walk-requires-clause-start c =
    let m : Map = c.args.map.now in
    start_there m c.args.id c.zone_up-first.result c.search-search.result c.search-search.ensures (at (goal.at.before_first-walk-requires-clause-start c).After-zone_up-first) (subst (λ (g : Geometry). c.zone_up-first.result < g.zones) c.geometry-g.ensures.value c.zone_up-first.ensures.low)

pub returns-clause-stands : goal.returns-clause-stands
returns-clause-stands c =
    started_search c.args.map.now c.args.id c.zone_up-first.result c.search-search.result c.before_first-walk.result c.search-search.ensures (at (goal.at.returns-clause-stands c).After-zone_up-first) c.before_first-walk.ensures
