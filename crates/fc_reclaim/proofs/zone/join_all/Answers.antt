use Rattle.std.proofs.Common.{sym, ◌∙◌}
use Rattle.fc_plan.proofs.Gives.{has_run}
use Rattle.fc_reclaim.proofs.JoinLemmas.{fewer_runs, joining_ends, joining_on, joining_start, joining_stops, two_holes}
use Rattle.fc_reclaim.proofs.zone.join_all.Goals as goal

pub loop-next-init : goal.loop-next-init
loop-next-init c = joining_start c.args.map.now c.args.z c.args.first c.requires.map c.requires.kind c.requires.run

pub next_in-requires-clause-run : goal.next_in-requires-clause-run
next_in-requires-clause-run c =
    let is = c.loop-next.invariant in
    has_run c.loop-next.map c.args.z is.next.front is.next.rest c.loop-next.hole is.edit.map is.next.low is.next.runs

pub returns-then-not-is_hole-clause-runs : goal.returns-then-not-is_hole-clause-runs
returns-then-not-is_hole-clause-runs c = λ front rest e.
    (joining_stops c.args.map.now c.loop-next.map c.args.z c.args.first c.loop-next.hole c.in-Some.next c.loop-next.invariant
    (λ f r h. sym c.in-Some.is ∙ c.next_in.ensures.value f r h) (sym c.is_hole.ensures ∙ c.if-not-is_hole.true) front rest e).1

pub returns-then-not-is_hole-clause-value : goal.returns-then-not-is_hole-clause-value
returns-then-not-is_hole-clause-value c = λ front rest e.
    (joining_stops c.args.map.now c.loop-next.map c.args.z c.args.first c.loop-next.hole c.in-Some.next c.loop-next.invariant
    (λ f r h. sym c.in-Some.is ∙ c.next_in.ensures.value f r h) (sym c.is_hole.ensures ∙ c.if-not-is_hole.true) front rest e).0

pub join-hole-requires-clause-holes : goal.join-hole-requires-clause-holes
join-hole-requires-clause-holes c =
    two_holes c.args.map.now c.loop-next.map c.args.z c.args.first c.loop-next.hole c.in-Some.next c.loop-next.invariant
    (λ f r h. sym c.in-Some.is ∙ c.next_in.ensures.value f r h) (sym c.is_hole.ensures ∙ c.if-not-is_hole.false)

pub loop-next-smaller : goal.loop-next-smaller
loop-next-smaller c =
    fewer_runs c.args.map.now c.loop-next.map c.args.z c.args.first c.loop-next.hole c.in-Some.next c.loop-next.invariant
    (λ f r h. sym c.in-Some.is ∙ c.next_in.ensures.value f r h) c.join-hole.new.map (sym c.is_hole.ensures ∙ c.if-not-is_hole.false) c.join-hole.ensures.runs

pub loop-next-preserved : goal.loop-next-preserved
loop-next-preserved c =
    rw c.join-hole.ensures.value
    (joining_on c.args.map.now c.loop-next.map c.args.z c.args.first c.loop-next.hole c.in-Some.next c.loop-next.invariant
    (λ f r h. sym c.in-Some.is ∙ c.next_in.ensures.value f r h) c.join-hole.new.map (sym c.is_hole.ensures ∙ c.if-not-is_hole.false) c.join-hole.ensures.edit c.join-hole.ensures.runs)

pub returns-clause-runs : goal.returns-clause-runs
returns-clause-runs c = λ front rest e.
    (joining_ends c.args.map.now c.loop-next.map c.args.z c.args.first c.loop-next.hole c.loop-next.invariant (λ f r h. sym c.in_default.is ∙ c.next_in.ensures.value f r h) front rest e).1

pub returns-clause-value : goal.returns-clause-value
returns-clause-value c = λ front rest e.
    (joining_ends c.args.map.now c.loop-next.map c.args.z c.args.first c.loop-next.hole c.loop-next.invariant (λ f r h. sym c.in_default.is ∙ c.next_in.ensures.value f r h) front rest e).0
