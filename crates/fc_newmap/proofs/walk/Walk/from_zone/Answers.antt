use Rattle.std.proofs.Common.{◌≡◌, [], List, ℕ, sym, ap, subst, ◌∙◌, refl}
use Rattle.fc_record.specs.declared.Geometry.{Geometry}
use Rattle.fc_zone.specs.declared.ZoneShape.{ZoneShape}
use Rattle.fc_zone.specs.Cursor.{StandsBetween}
use Rattle.fc_zone.specs.Zone.{IsShapeOf, Zone}
use Rattle.fc_newmap.specs.Map.{runs_of, sector_of, shape}
use Rattle.fc_newmap.proofs.HeldLemmas.{shape_fits}
use Rattle.fc_newmap.proofs.WalkLemmas.{stands_in}
use Rattle.fc_newmap.proofs.walk.Walk.from_zone.Goals as goal
use Rattle.fc_newmap.proofs.walk.Walk.from_zone.Goals.{After-bytes}

shape_is : (c : After-bytes) → c.shape_of-shape.result ≡ shape c.args.map.now.geometry c.args.z
shape_is c = c.shape_of-shape.ensures.value ∙ ap (λ (g : Geometry). shape g c.args.z) c.geometry.ensures.value

zone_is : (c : After-bytes) → Zone c.shape_of-shape.result c.bytes.result.now (runs_of c.args.map.now c.args.z)
zone_is c =
    subst (λ (s : ZoneShape). Zone s c.bytes.result.now (runs_of c.args.map.now c.args.z)) (sym (shape_is c))
    (subst (λ (s : List ℕ). Zone (shape c.args.map.now.geometry c.args.z) s (runs_of c.args.map.now c.args.z)) (sym c.bytes.ensures.value) (let is = c.geometry.ensures.map in is.right c.args.z c.requires))

pub start-place-requires-clause-shape : goal.start-place-requires-clause-shape
start-place-requires-clause-shape c =
    let is = c.geometry.ensures.map in
    subst (λ (s : ZoneShape). IsShapeOf c.bytes.result.now s) (sym (shape_is (goal.at.start-place-requires-clause-shape c).After-bytes))
    (shape_fits c.args.map.now.geometry c.args.z c.bytes.result.now is.of_record c.requires c.bytes.ensures.long)

pub start-place-requires-clause-zone : goal.start-place-requires-clause-zone
start-place-requires-clause-zone c = (runs_of c.args.map.now c.args.z, zone_is (goal.at.start-place-requires-clause-zone c).After-bytes)

pub returns-clause-stands : goal.returns-clause-stands
returns-clause-stands c =
    let before = (goal.at.returns-clause-stands c).After-bytes in
    let stands = c.start-place.ensures (runs_of c.args.map.now c.args.z) (zone_is before) in
    let here = subst (λ (s : List ℕ). StandsBetween c.shape_of-shape.result s [] (runs_of c.args.map.now c.args.z) c.start-place.result) c.bytes.ensures.value stands in
    stands_in c.args.map.now c.args.z c.args.more [] (runs_of c.args.map.now c.args.z) (record { shape = c.shape_of-shape.result; place = c.start-place.result; more = c.args.more }) c.requires (shape_is before) refl
    (subst (λ (s : ZoneShape). StandsBetween s (sector_of c.args.map.now c.args.z) [] (runs_of c.args.map.now c.args.z) c.start-place.result) (shape_is before) here)
