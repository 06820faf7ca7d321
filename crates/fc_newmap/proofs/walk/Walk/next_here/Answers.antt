use Rattle.std.proofs.Common.{List, ℕ, sym, subst}
use Rattle.fc_zone.specs.declared.ZoneShape.{ZoneShape}
use Rattle.fc_zone.specs.Zone.{IsShapeOf}
use Rattle.fc_newmap.specs.Map.{sector_of}
use Rattle.fc_newmap.proofs.HeldLemmas.{shape_fits}
use Rattle.fc_newmap.proofs.WalkLemmas.{IsStep, here_is, here_onward, here_within}
use Rattle.fc_newmap.proofs.walk.Walk.next_here.Goals as goal
use Rattle.fc_newmap.proofs.walk.Walk.next_here.Goals.{After-next}

pub next-requires-clause-shape : goal.next-requires-clause-shape
next-requires-clause-shape c =
    let stands = c.requires.1 in
    subst (λ (s : ZoneShape). IsShapeOf c.bytes.result.now s) (sym stands.shape)
    (shape_fits c.args.map.now.geometry c.args.self.now.shape.zone c.bytes.result.now c.bytes.ensures.map.of_record stands.low c.bytes.ensures.long)

step : (c : After-next) → IsStep c.args.self.now.shape (sector_of c.args.map.now c.args.self.now.shape.zone) c.args.self.now.place c.next.new.self c.next.result
step c = subst (λ (s : List ℕ). IsStep c.args.self.now.shape s c.args.self.now.place c.next.new.self c.next.result) c.bytes.ensures.value c.next.ensures.value

pub returns-clause-value : goal.returns-clause-value
returns-clause-value c = λ left stands.
    here_is c.args.map.now left c.args.self.now c.next.new.self c.next.result stands (step (goal.at.returns-clause-value c).After-next)

pub returns-clause-onward : goal.returns-clause-onward
returns-clause-onward c =
    here_onward c.args.map.now c.requires.0 c.args.self.now c.next.new.self c.next.result c.requires.1 (step (goal.at.returns-clause-onward c).After-next) c.next.ensures.place

pub returns-clause-within : goal.returns-clause-within
returns-clause-within c = here_within c.args.map.now c.requires.0 c.args.self.now c.next.new.self c.next.result c.requires.1 (step (goal.at.returns-clause-within c).After-next)
