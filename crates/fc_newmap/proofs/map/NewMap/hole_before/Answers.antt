use Rattle.std.proofs.Common.{◌≡◌, ◌++◌, ◌∷◌, List, ℕ, sym, ap, subst, ◌∙◌}
use Rattle.fc_record.specs.declared.Geometry.{Geometry}
use Rattle.fc_zone.specs.declared.ZoneShape.{ZoneShape}
use Rattle.fc_zone.specs.Edits.{HasRunAt}
use Rattle.fc_zone.specs.Zone.{IsShapeOf, Zone}
use Rattle.fc_newmap.specs.Map.{shape}
use Rattle.fc_newmap.proofs.ComposeLemmas.{zone_cut}
use Rattle.fc_newmap.proofs.HeldLemmas.{shape_fits}
use Rattle.fc_newmap.proofs.map.NewMap.hole_before.Goals as goal
use Rattle.fc_newmap.proofs.map.NewMap.hole_before.Goals.{After-bytes}

shape_is : (c : After-bytes) → c.shape_of-shape.result ≡ shape c.args.self.now.geometry c.args.z
shape_is c = c.shape_of-shape.ensures.value ∙ ap (λ (g : Geometry). shape g c.args.z) c.geometry.ensures.value

pub hole_before-requires-clause-shape : goal.hole_before-requires-clause-shape
hole_before-requires-clause-shape c =
    let is = c.geometry.ensures.map in
    subst (λ (s : ZoneShape). IsShapeOf c.bytes.result.now s) (sym (shape_is (goal.at.hole_before-requires-clause-shape c).After-bytes))
    (shape_fits c.args.self.now.geometry c.args.z c.bytes.result.now is.of_record c.requires.zone c.bytes.ensures.long)

pub hole_before-requires-clause-run : goal.hole_before-requires-clause-run
hole_before-requires-clause-run c =
    subst (λ (s : ZoneShape). HasRunAt s c.bytes.result.now c.args.start) (sym (shape_is (goal.at.hole_before-requires-clause-run c).After-bytes))
    (subst (λ (b : List ℕ). HasRunAt (shape c.args.self.now.geometry c.args.z) b c.args.start) (sym c.bytes.ensures.value) c.requires.run)

pub returns : goal.returns
returns c = λ front rest run runs at.
    let m = c.args.self.now in
    let z = c.args.z in
    let zone = zone_cut m z (front ++ run ∷ rest) c.geometry.ensures.map c.requires.zone runs in
    let here : Zone c.shape_of-shape.result c.bytes.result.now (front ++ run ∷ rest) =
    subst (λ (s : ZoneShape). Zone s c.bytes.result.now (front ++ run ∷ rest)) (sym (shape_is (goal.at.returns c).After-bytes)) (subst (λ (b : List ℕ). Zone (shape m.geometry z) b (front ++ run ∷ rest)) (sym c.bytes.ensures.value) zone) in
    c.hole_before.ensures front rest run here at
