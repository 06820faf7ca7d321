use Rattle.std.proofs.Common.{List, ℕ, sym, subst}
use Rattle.fc_zone.specs.declared.ZoneShape.{ZoneShape}
use Rattle.fc_zone.specs.Zone.{IsShapeOf}
use Rattle.fc_newmap.specs.Map.{sector_of}
use Rattle.fc_newmap.proofs.HeldLemmas.{shape_fits}
use Rattle.fc_newmap.proofs.HoleLemmas.{IsHoleStep, hole_onward, hole_passed, hole_within}
use Rattle.fc_newmap.proofs.walk.Walk.next_hole_here.Goals as goal
use Rattle.fc_newmap.proofs.walk.Walk.next_hole_here.Goals.{After-next_hole}

pub next_hole-requires-clause-shape : goal.next_hole-requires-clause-shape
next_hole-requires-clause-shape c =
    let stands = c.requires.1 in
    subst (λ (s : ZoneShape). IsShapeOf c.bytes.result.now s) (sym stands.shape)
    (shape_fits c.args.map.now.geometry c.args.self.now.shape.zone c.bytes.result.now c.bytes.ensures.map.of_record stands.low c.bytes.ensures.long)

step : (c : After-next_hole) → IsHoleStep c.args.self.now.shape (sector_of c.args.map.now c.args.self.now.shape.zone) c.args.self.now.place c.next_hole.new.self c.next_hole.result
step c = subst (λ (s : List ℕ). IsHoleStep c.args.self.now.shape s c.args.self.now.place c.next_hole.new.self c.next_hole.result) c.bytes.ensures.value c.next_hole.ensures.value

pub returns-clause-value : goal.returns-clause-value
returns-clause-value c = λ left stands.
    hole_passed c.args.map.now left c.args.self.now c.next_hole.new.self c.next_hole.result stands (step (goal.at.returns-clause-value c).After-next_hole)

pub returns-clause-onward : goal.returns-clause-onward
returns-clause-onward c =
    hole_onward c.args.map.now c.requires.0 c.args.self.now c.next_hole.new.self c.next_hole.result c.requires.1 (step (goal.at.returns-clause-onward c).After-next_hole) c.next_hole.ensures.onward

pub returns-clause-within : goal.returns-clause-within
returns-clause-within c = hole_within c.args.map.now c.requires.0 c.args.self.now c.next_hole.new.self c.next_hole.result c.requires.1 (step (goal.at.returns-clause-within c).After-next_hole)
