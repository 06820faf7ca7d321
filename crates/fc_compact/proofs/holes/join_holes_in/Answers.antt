use Rattle.std.proofs.Common.{◌≡◌, ◌∷◌, ◌++◌, [], List, Bool, true, false, cond, refl, ap, sym, ◌∙◌, append_assoc}
use Rattle.fc_zone.specs.declared.Run.{Run}
use Rattle.fc_zone.specs.Cursor.{StandsBetween}
use Rattle.fc_newmap.specs.Map.{runs_of, sector_of}
use Rattle.fc_newmap.proofs.ComposeLemmas.{edit_none, edit_then}
use Rattle.fc_image.specs.effects.Moves.{with_holes_joined}
use Rattle.fc_compact.specs.Joins.{are_holes, hole_or_next}
use Rattle.fc_compact.specs.Slides.{HasRuns}
use Rattle.fc_compact.proofs.ShiftLemmas.{low_then}
use Rattle.fc_compact.proofs.TouchLemmas.{pair_joined}
use Rattle.fc_compact.proofs.ZonePassLemmas.{IsBegun, begun, read_as, shape_stays, stands_on}
use Rattle.fc_compact.proofs.holes.join_holes_in.Goals as goal
use Rattle.fc_compact.proofs.holes.join_holes_in.Goals.{After-from_zone-walk, In-Some-next}

-- before all runs of the zone
start : (c : After-from_zone-walk) → IsBegun c.args.map.now c.args.z c.from_zone-walk.result
start c = begun c.args.map.now c.args.z c.from_zone-walk.result c.from_zone-walk.ensures.stands c.from_zone-walk.ensures.zone c.from_zone-walk.ensures.more

pub next-requires-clause-shape : goal.next-requires-clause-shape
next-requires-clause-shape c =
    let m = c.args.map.now in
    let s = start (goal.at.next-requires-clause-shape c).After-from_zone-walk in
    shape_stays m m c.args.z c.from_zone-walk.result.shape c.bytes.result.now c.from_zone-walk.ensures.map refl c.requires.zone s.shape_is c.bytes.ensures.value

pub next-requires-clause-stands : goal.next-requires-clause-stands
next-requires-clause-stands c =
    let m = c.args.map.now in
    let walk = c.from_zone-walk.result in
    let s = start (goal.at.next-requires-clause-stands c).After-from_zone-walk in
    (s.done, runs_of m c.args.z, read_as walk.shape (sector_of m c.args.z) c.bytes.result.now s.done (runs_of m c.args.z) walk.place c.bytes.ensures.value s.stands)

pub returns-in_default-clause-runs : goal.returns-in_default-clause-runs
returns-in_default-clause-runs c =
    let runs = runs_of c.args.map.now c.args.z in
    let walk = c.from_zone-walk.result in
    let s = start (goal.at.returns-in_default-clause-runs c).After-from_zone-walk in
    let none = (c.in_default.ensures.value s.done runs (read_as walk.shape (sector_of c.args.map.now c.args.z) c.bytes.result.now s.done runs walk.place c.bytes.ensures.value s.stands)).0 in
    none ∙ sym (ap with_holes_joined none)

pub returns-in_default-clause-edit : goal.returns-in_default-clause-edit
returns-in_default-clause-edit c = edit_none c.args.map.now c.args.z c.from_zone-walk.ensures.map

pub loop-next-init : goal.loop-next-init
loop-next-init c =
    let m = c.args.map.now in
    let z = c.args.z in
    let walk = c.from_zone-walk.result in
    let s = start (goal.at.loop-next-init c).After-from_zone-walk in
    let first = c.in-Some.first in
    let step = c.in-Some.ensures.value s.done (runs_of m z) (read_as walk.shape (sector_of m z) c.bytes.result.now s.done (runs_of m z) walk.place c.bytes.ensures.value s.stands) in
    record {
      front = [];
      rest = step.0;
      cut = step.1.0;
      all = ap with_holes_joined step.1.0;
      edit = edit_none m z c.from_zone-walk.ensures.map;
      shape = s.shape_is;
      passed = s.done ++ first ∷ [];
      stands = read_as walk.shape c.bytes.result.now (sector_of m z) (s.done ++ first ∷ []) step.0 c.next.new.self (sym c.bytes.ensures.value) step.1.1;
    }

-- the rest of the runs, of which one comes next
record IsOnward (c : In-Some-next) : Type 0 where
  pub rest : List Run
  pub ahead : c.loop-next.invariant.rest ≡ c.in-Some-next.next ∷ rest
  pub stands : StandsBetween c.from_zone-walk.result.shape (sector_of c.loop-next.map c.args.z) (c.loop-next.invariant.passed ++ c.in-Some-next.next ∷ []) rest c.next-in-loop-next.new.self

onward : (c : In-Some-next) → IsOnward c
onward c =
    let was = c.loop-next.invariant in
    let k = c.from_zone-walk.result.shape in
    let b = c.bytes-in-loop-next in
    let sector = sector_of c.loop-next.map c.args.z in
    let step = c.in-Some-next.ensures.value was.passed was.rest (read_as k sector b.result.now was.passed was.rest c.loop-next.place b.ensures.value was.stands) in
    record {
      rest = step.0;
      ahead = step.1.0;
      stands = read_as k b.result.now sector (was.passed ++ c.in-Some-next.next ∷ []) step.0 c.next-in-loop-next.new.self (sym b.ensures.value) step.1.1;
    }

pub next-requires-in-loop-next-clause-shape : goal.next-requires-in-loop-next-clause-shape
next-requires-in-loop-next-clause-shape c =
    let was = c.loop-next.invariant in
    shape_stays c.args.map.now c.loop-next.map c.args.z c.from_zone-walk.result.shape c.bytes-in-loop-next.result.now was.edit.map was.edit.geometry c.requires.zone was.shape c.bytes-in-loop-next.ensures.value

pub join_pair-run-requires-clause-zone : goal.join_pair-run-requires-clause-zone
join_pair-run-requires-clause-zone c = low_then c.args.map.now c.loop-next.map c.args.z c.args.z c.loop-next.invariant.edit c.requires.zone

pub join_pair-run-requires-clause-pair : goal.join_pair-run-requires-clause-pair
join_pair-run-requires-clause-pair c =
    let was = c.loop-next.invariant in
    let o = onward (goal.at.join_pair-run-requires-clause-pair c).In-Some-next in
    (was.front, o.rest, was.cut ∙ ap (λ (rs : List Run). was.front ++ c.loop-next.run ∷ rs) o.ahead)

-- the runs before the one from which the walk goes on
gone_on : (b : Bool) (front rest : List Run) (run here : Run) → (before : List Run) × (front ++ cond b (here ∷ rest) (run ∷ (here ∷ rest)) ≡ before ++ here ∷ rest) × ((ws : List Run) → front ++ cond b ws (run ∷ ws) ≡ before ++ ws)
gone_on true front rest run here = (front, refl, λ ws. refl)
gone_on false front rest run here = (front ++ run ∷ [], sym (append_assoc front (run ∷ []) (here ∷ rest)), λ ws. sym (append_assoc front (run ∷ []) ws))

pub loop-next-preserved : goal.loop-next-preserved
loop-next-preserved c =
    let was = c.loop-next.invariant in
    let m = c.args.map.now in
    let z = c.args.z in
    let k = c.from_zone-walk.result.shape in
    let run = c.loop-next.run in
    let next = c.in-Some-next.next in
    let n = c.join_pair-run.new.map in
    let o = onward (goal.at.loop-next-preserved c).In-Some-next in
    let here = c.join_pair-run.result in
    let cut = was.cut ∙ ap (λ (rs : List Run). was.front ++ run ∷ rs) o.ahead in
    let on = gone_on (are_holes run next) was.front o.rest run (hole_or_next run next) in
    let named = c.join_pair-run.ensures.value in
    let after : HasRuns n z (on.0 ++ here ∷ o.rest) = c.join_pair-run.ensures.runs was.front o.rest cut ∙ on.1 ∙ ap (λ (r : Run). on.0 ++ r ∷ o.rest) (sym named) in
    let edit = edit_then m c.loop-next.map n z was.edit c.join_pair-run.ensures.edit in
    record {
      front = on.0;
      rest = o.rest;
      cut = after;
      all = was.all ∙ ap (λ (rs : List Run). was.front ++ with_holes_joined (run ∷ rs)) o.ahead
          ∙ ap (λ (rs : List Run). was.front ++ rs) (pair_joined run next o.rest)
          ∙ on.2 (with_holes_joined (hole_or_next run next ∷ o.rest))
          ∙ ap (λ (r : Run). on.0 ++ with_holes_joined (r ∷ o.rest)) (sym named);
      edit = edit;
      shape = was.shape;
      passed = on.0 ++ here ∷ [];
      stands = stands_on m n z k (sector_of c.loop-next.map z) (was.passed ++ next ∷ []) (on.0 ++ here ∷ []) o.rest c.next-in-loop-next.new.self edit.map edit.geometry c.requires.zone was.shape o.stands
          (after ∙ sym (append_assoc on.0 (here ∷ []) o.rest));
    }

pub returns-clause-runs : goal.returns-clause-runs
returns-clause-runs c =
    let was = c.loop-next.invariant in
    let k = c.from_zone-walk.result.shape in
    let b = c.bytes-in-loop-next in
    let none = (c.in_default-next.ensures.value was.passed was.rest (read_as k (sector_of c.loop-next.map c.args.z) b.result.now was.passed was.rest c.loop-next.place b.ensures.value was.stands)).0 in
    was.cut ∙ ap (λ (rs : List Run). was.front ++ c.loop-next.run ∷ rs) none
    ∙ sym (was.all ∙ ap (λ (rs : List Run). was.front ++ with_holes_joined (c.loop-next.run ∷ rs)) none)
