use Rattle.std.proofs.Common.{◌≡◌, ◌++◌, ◌∷◌, [], List, refl, sym, ap, subst, ◌∙◌, arith}
use Rattle.fc_zone.specs.declared.Run.{Run}
use Rattle.fc_zone.specs.declared.cursor.Cursor.{Cursor}
use Rattle.fc_zone.specs.Cursor.{StandsBetween}
use Rattle.fc_reclaim.proofs.PastLemmas.{HasPassed, past_ends, past_on, past_stops}
use Rattle.fc_reclaim.proofs.zone.past_holes.Goals as goal
use Rattle.fc_reclaim.proofs.zone.past_holes.Goals.{After-is_hole}

pub loop-next-init : goal.loop-next-init
loop-next-init c = record {
  same = refl;
  passed = λ done left stands. record { passed = done; rest = left; stands = stands; same = refl };
  onward = omega arith;
  past = omega arith;
}

pub next-requires-clause-stands : goal.next-requires-clause-stands
next-requires-clause-stands c =
    let s = c.requires.stands in
    let h = c.loop-next.invariant.passed s.0 s.1 s.2 in
    (h.passed, h.rest, subst (StandsBetween c.args.shape.now c.args.b.now h.passed h.rest) (sym c.loop-next.invariant.same) h.stands)

-- what the call gives of the runs that are left
step : (c : After-is_hole) (done left : List Run) (stands : StandsBetween c.args.shape.now c.args.b.now done left c.args.place) → (is : HasPassed c.args.shape.now c.args.b.now left c.loop-next.past)
    → (rest : List Run) × ((is.rest ≡ c.in-Some.next ∷ rest) × StandsBetween c.args.shape.now c.args.b.now (is.passed ++ c.in-Some.next ∷ []) rest c.next.new.self)
step c done left stands is =
    c.in-Some.ensures.value is.passed is.rest (subst (StandsBetween c.args.shape.now c.args.b.now is.passed is.rest) (sym c.loop-next.invariant.same) is.stands)

pub loop-next-preserved : goal.loop-next-preserved
loop-next-preserved c =
    let same = ap (λ (p : Cursor). p.at) c.loop-next.invariant.same in
    let was = c.loop-next.invariant in
    let onward = c.in-Some.ensures.onward in
    let place = c.in-Some.ensures.place in
    record {
      same = refl;
      passed = λ done left stands.
          (let is = c.loop-next.invariant.passed done left stands in
          past_on c.args.shape.now c.args.b.now left c.loop-next.past c.next.new.self c.in-Some.next is (sym c.is_hole.ensures ∙ c.if-not-is_hole.false)
          (step (goal.at.loop-next-preserved c).After-is_hole done left stands is));
      onward = omega (arith, same, was.onward, onward);
      past = omega (arith, same, was.past, place.0, place.1);
    }

pub returns-then-not-is_hole-clause-stands : goal.returns-then-not-is_hole-clause-stands
returns-then-not-is_hole-clause-stands c = λ done left stands.
    let is = c.loop-next.invariant.passed done left stands in
    let next = step (goal.at.returns-then-not-is_hole-clause-stands c).After-is_hole done left stands is in
    rw c.if-not-goes.false (past_stops c.args.shape.now c.args.b.now left c.loop-next.past c.in-Some.next next.0 is (sym c.is_hole.ensures ∙ c.if-not-is_hole.true) next.1.0)

pub returns-clause-stands : goal.returns-clause-stands
returns-clause-stands c = λ done left stands.
    let is = c.loop-next.invariant.passed done left stands in
    let none = (c.in_default.ensures.value is.passed is.rest (subst (StandsBetween c.args.shape.now c.args.b.now is.passed is.rest) (sym c.loop-next.invariant.same) is.stands)).0 in
    rw c.if-not-goes.false (past_ends c.args.shape.now c.args.b.now left c.loop-next.past is none)
