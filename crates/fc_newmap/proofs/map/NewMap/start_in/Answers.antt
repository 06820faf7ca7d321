use Rattle.std.proofs.Common.{◌≡◌, ◌<◌, ◌∙◌, ℕ, ap, subst}
use Rattle.fc_record.specs.declared.Geometry.{Geometry}
use Rattle.fc_newmap.specs.Map.{Map, home_zone}
use Rattle.fc_newmap.specs.Tally.{IsFirstIn}
use Rattle.fc_newmap.specs.Walk.{zone_up}
use Rattle.fc_newmap.proofs.AheadLemmas.{start_there}
use Rattle.fc_newmap.proofs.map.NewMap.start_in.Goals as goal

pub returns : goal.returns
returns c =
    let m : Map = c.args.self.now in
    let e = c.geometry-g.ensures.value in
    let search = c.search-search.result in
    let at : c.zone_up.result ≡ zone_up m.geometry (home_zone m.geometry c.args.id) search.ahead =
    c.zone_up.ensures.value ∙ ap (λ (g : Geometry). zone_up g c.home_zone.result search.ahead) e
    ∙ ap (λ (y : ℕ). zone_up m.geometry y search.ahead) (c.home_zone.ensures.value ∙ ap (λ (g : Geometry). home_zone g c.args.id) e) in
    let first = start_there m c.args.id c.zone_up.result search c.search-search.ensures at (subst (λ (g : Geometry). c.zone_up.result < g.zones) e c.zone_up.ensures.low) c.if-search-eq0.false in
    subst (λ (y : ℕ). IsFirstIn m c.args.id y search.start) c.if-zone_up-z.false first
