use Rattle.std.proofs.Common.{◌<◌, ◌+◌, ◌-◌, ◌^◌, ◌∙◌, All, refl, subst, arith}
use Rattle.fc_objects.proofs.AheadLemmas.{ahead_entered, ahead_none, ahead_passed, ahead_row}
use Rattle.fc_objects.proofs.sectors.Sectors.next_row.Goals as goal

pub returns-in_default-clause-end : goal.returns-in_default-clause-end
returns-in_default-clause-end c = λ _. c.loop-self.invariant ∙ ahead_none c.loop-self.self c.loop-self-test.true c.in_default.ensures.cases

pub loop-self-preserved : goal.loop-self-preserved
loop-self-preserved c =
    c.loop-self.invariant
    ∙ ahead_entered c.loop-self.self (record { row = c.in-Some.first.now; rest = c.in-Some.rest }) c.in-Some.first.now c.in-Some.rest.now c.loop-self-test.true c.in-Some.ensures.cases.0 refl refl

pub overflow_add-self : goal.overflow_add-self
overflow_add-self c =
    let last = ahead_row (λ n. n + 1 < 2 ^ 64) c.loop-self.self (omega (arith, c.loop-self-test.false)) (subst (All (λ n. n + 1 < 2 ^ 64)) c.loop-self.invariant c.requires.fit) in
    omega (arith, last, c.min-sectors.ensures)

pub returns-clause-row : goal.returns-clause-row
returns-clause-row c =
    let s = c.loop-self.self in
    c.loop-self.invariant
    ∙ ahead_passed s (record { row = record { first = s.row.first + c.min-sectors.result; sectors = s.row.sectors - c.min-sectors.result }; rest = s.rest }) (record { first = s.row.first; sectors = c.min-sectors.result })
    (s.row.sectors - c.min-sectors.result) (omega (arith, c.min-sectors.ensures)) refl refl refl refl
