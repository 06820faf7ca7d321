use Rattle.std.proofs.Common.{◌<◌, ◌∙◌, ℕ, ap, arith}
use Rattle.fc_record.specs.declared.Geometry.{Geometry}
use Rattle.fc_newmap.specs.Map.{home_zone}
use Rattle.fc_newmap.specs.Walk.{zone_up}
use Rattle.fc_newmap.proofs.AheadLemmas.{only_zone}
use Rattle.fc_newmap.proofs.map.NewMap.only_zone_of.Goals as goal

pub returns : goal.returns
returns c =
    let m = c.args.self.now in
    let id = c.args.id in
    let row = c.in_ok-row.row in
    let same = c.geometry-g.ensures.value in
    let zones = ap (λ (g : Geometry). g.zones) same in
    let end = c.if-row-g.false in
    let z = c.zone_up.ensures in
    let at = z.value ∙ ap (λ (n : ℕ). zone_up c.geometry-g.result.now n row.ahead) c.home_zone.ensures.value ∙ ap (λ (g : Geometry). zone_up g (home_zone g id) row.ahead) same in
    let low = z.low in
    let in' : c.zone_up.result < m.geometry.zones = omega (arith, low, zones) in
    (in', only_zone m id row c.zone_up.result c.in_ok-row.ensures in' c.if-row-eq0.false (omega (arith, end, zones)) c.if-row.false at)
