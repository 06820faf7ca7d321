use Rattle.std.proofs.Common.{◌-◌, List, ap, subst, arith}
use Rattle.fc_record.specs.declared.Geometry.{Geometry}
use Rattle.fc_newmap.specs.Map.{ZoneRun}
use Rattle.fc_newmap.specs.Walk.{StandsBefore}
use Rattle.fc_newmap.proofs.HeldLemmas.{geometry_facts}
use Rattle.fc_newmap.proofs.WalkLemmas.{all_is}
use Rattle.fc_newmap.proofs.walk.Walk.over_all.Goals as goal

pub returns-clause-stands : goal.returns-clause-stands
returns-clause-stands c =
    let is = c.geometry.ensures.map in
    let f = geometry_facts c.args.map.now.geometry is.of_record in
    let zones = ap (λ (g : Geometry). g.zones) c.geometry.ensures.value in
    subst (λ (l : List ZoneRun). StandsBefore c.args.map.now l c.from_zone.result)
    (all_is c.args.map.now (c.geometry.result.now.zones - 1) (omega (arith, f.zones, zones))) c.from_zone.ensures.stands

pub overflow_sub-geometry : goal.overflow_sub-geometry
overflow_sub-geometry c =
    let is = c.geometry.ensures.map in
    let f = geometry_facts c.args.map.now.geometry is.of_record in
    let zones = ap (λ (g : Geometry). g.zones) c.geometry.ensures.value in
    omega (arith, f.zones, zones)

pub from_zone-requires : goal.from_zone-requires
from_zone-requires c =
    let is = c.geometry.ensures.map in
    let f = geometry_facts c.args.map.now.geometry is.of_record in
    omega (arith, f.zones)
