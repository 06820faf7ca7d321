use Rattle.std.proofs.Common.{◌≡◌, ◌++◌, ◌∷◌, List, ℕ, sym, ap, subst, ◌∙◌, refl}
use Rattle.fc_record.specs.declared.Geometry.{Geometry}
use Rattle.fc_zone.specs.declared.ZoneShape.{ZoneShape}
use Rattle.fc_zone.specs.Cursor.{StandsBetween}
use Rattle.fc_zone.specs.Edits.{HasRunAt}
use Rattle.fc_zone.specs.Zone.{IsShapeOf, Zone}
use Rattle.fc_newmap.specs.Map.{sector_of, shape}
use Rattle.fc_newmap.proofs.HeldLemmas.{shape_fits}
use Rattle.fc_newmap.proofs.WalkLemmas.{stands_in}
use Rattle.fc_newmap.proofs.walk.Walk.at_run.Goals as goal
use Rattle.fc_newmap.proofs.walk.Walk.at_run.Goals.{After-bytes}

shape_is : (c : After-bytes) → c.shape_of-shape.result ≡ shape c.args.map.now.geometry c.args.z
shape_is c = c.shape_of-shape.ensures.value ∙ ap (λ (g : Geometry). shape g c.args.z) c.geometry.ensures.value

pub before_run-place-requires-clause-shape : goal.before_run-place-requires-clause-shape
before_run-place-requires-clause-shape c =
    let is = c.geometry.ensures.map in
    subst (λ (s : ZoneShape). IsShapeOf c.bytes.result.now s) (sym (shape_is (goal.at.before_run-place-requires-clause-shape c).After-bytes))
    (shape_fits c.args.map.now.geometry c.args.z c.bytes.result.now is.of_record c.requires.zone c.bytes.ensures.long)

pub before_run-place-requires-clause-run : goal.before_run-place-requires-clause-run
before_run-place-requires-clause-run c =
    subst (λ (s : ZoneShape). HasRunAt s c.bytes.result.now c.args.start) (sym (shape_is (goal.at.before_run-place-requires-clause-run c).After-bytes))
    (subst (λ (b : List ℕ). HasRunAt (shape c.args.map.now.geometry c.args.z) b c.args.start) (sym c.bytes.ensures.value) c.requires.run)

pub returns : goal.returns
returns c = λ front rest run runs at.
    let m = c.args.map.now in
    let z = c.args.z in
    let is = c.geometry.ensures.map in
    let same = shape_is (goal.at.returns c).After-bytes in
    let zone : Zone (shape m.geometry z) (sector_of m z) (front ++ run ∷ rest) = subst (Zone (shape m.geometry z) (sector_of m z)) runs (is.right z c.requires.zone) in
    let here : Zone c.shape_of-shape.result c.bytes.result.now (front ++ run ∷ rest) =
    subst (λ (s : ZoneShape). Zone s c.bytes.result.now (front ++ run ∷ rest)) (sym same) (subst (λ (b : List ℕ). Zone (shape m.geometry z) b (front ++ run ∷ rest)) (sym c.bytes.ensures.value) zone) in
    let stands = c.before_run-place.ensures front rest run here at in
    let there = subst (λ (b : List ℕ). StandsBetween c.shape_of-shape.result b front (run ∷ rest) c.before_run-place.result) c.bytes.ensures.value stands in
    stands_in m z c.args.more front (run ∷ rest) (record { shape = c.shape_of-shape.result; place = c.before_run-place.result; more = c.args.more }) c.requires.zone same refl
    (subst (λ (s : ZoneShape). StandsBetween s (sector_of m z) front (run ∷ rest) c.before_run-place.result) same there)
