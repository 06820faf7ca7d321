use Rattle.std.proofs.Common.{◌++◌, ◌∷◌, [], ℕ, List, refl, sym, subst}
use Rattle.fc_zone.specs.declared.Run.{Run}
use Rattle.fc_zone.specs.declared.ZoneShape.{ZoneShape}
use Rattle.fc_zone.specs.Cursor.{StandsBetween}
use Rattle.fc_zone.specs.Zone.{IsShapeOf, Zone}
use Rattle.fc_newmap.specs.Map.{runs_of, sector_of, shape}
use Rattle.fc_newmap.proofs.ComposeLemmas.{zone_cut}
use Rattle.fc_plan.proofs.Starts.{none_ends}
use Rattle.fc_newmap.proofs.ZoneWalkLemmas.{IsStart, shape_of_zone, stands_again, started_in}
use Rattle.fc_plan.proofs.beginnings.beginning.Goals as goal
use Rattle.fc_plan.proofs.beginnings.beginning.Goals.{After-first_start}

started : (c : After-first_start) → IsStart c.args.map.now c.args.z c.from_zone-walk.result
started c = started_in c.args.map.now c.args.z c.from_zone-walk.result c.from_zone-walk.ensures.stands c.from_zone-walk.ensures.zone c.from_zone-walk.ensures.more

pub returns-in_default : goal.returns-in_default
returns-in_default c =
    let m = c.args.map.now in
    let z = c.args.z in
    let walk = c.from_zone-walk.result in
    let start = started (goal.at.returns-in_default c).After-first_start in
    let zone = c.requires.map.right z c.requires.zone in
    let stands = stands_again (shape m.geometry z) (sector_of m z) (sector_of m z) start.done [] (runs_of m z) walk.place start.place zone in
    record {
      done = [];
      left = runs_of m z;
      cut = refl;
      none = refl;
      hole = none_ends;
      shape = start.shape_is;
      stands = subst (λ (s : ZoneShape). StandsBetween s (sector_of m z) [] (runs_of m z) walk.place) (sym start.shape_is) stands;
    }

pub before_run-walk-requires-clause-shape : goal.before_run-walk-requires-clause-shape
before_run-walk-requires-clause-shape c =
    let m = c.args.map.now in
    let z = c.args.z in
    let start = started (goal.at.before_run-walk-requires-clause-shape c).After-first_start in
    subst (λ (b : List ℕ). IsShapeOf b c.from_zone-walk.result.shape) (sym c.bytes.ensures.value)
    (subst (λ (s : ZoneShape). IsShapeOf (sector_of m z) s) (sym start.shape_is) (shape_of_zone m z c.requires.map c.requires.zone))

pub returns : goal.returns
returns c =
    let m = c.args.map.now in
    let z = c.args.z in
    let at = c.in-Some.ensures in
    let walk = c.from_zone-walk.result in
    let start = started (goal.at.returns c).After-first_start in
    let runs : List Run = at.front ++ at.run ∷ at.rest in
    let zone = zone_cut m z runs c.requires.map c.requires.zone at.cut in
    let here : Zone walk.shape c.bytes.result.now runs =
    subst (λ (b : List ℕ). Zone walk.shape b runs) (sym c.bytes.ensures.value) (subst (λ (s : ZoneShape). Zone s (sector_of m z) runs) (sym start.shape_is) zone) in
    record {
      done = at.front;
      left = at.run ∷ at.rest;
      cut = at.cut;
      none = at.none;
      hole = c.hole_before.ensures at.front at.rest at.run at.cut at.begins;
      shape = start.shape_is;
      stands = subst (λ (b : List ℕ). StandsBetween walk.shape b at.front (at.run ∷ at.rest) c.before_run-walk.result) c.bytes.ensures.value
          (c.before_run-walk.ensures at.front at.rest at.run here at.begins);
    }
