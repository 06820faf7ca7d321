use Rattle.std.proofs.Common.{◌≡◌, ◌≤◌, ◌∙◌, List, None, arith, inl, nat_le, sym, subst}
use Rattle.std.specs.List.{find}
use Rattle.fc_newmap.specs.Map.{ZoneRun}
use Rattle.fc_plan.proofs.MetHoles.{fits_last}
use Rattle.fc_plan.proofs.holes.Holes.meet.Goals as goal

pub returns-then-is_some-clause-met : goal.returns-then-is_some-clause-met
returns-then-is_some-clause-met c = inl (λ none. (
    let found = rw c.deref.ensures.value at c.first_fit.ensures in
    let same = found ∙ none in
    let some = rw same at c.is_some.ensures in
    let test = sym c.if-is_some.true ∙ some in
    cc))

pub loop-hole-preserved : goal.loop-hole-preserved
loop-hole-preserved c = record { walked = c.in_ok-hole.ensures.walked; same = c.in_ok-hole.ensures.same ∙ c.loop-hole.invariant.same }

pub returns-then-bits-from-clause-met : goal.returns-then-bits-from-clause-met
returns-then-bits-from-clause-met c =
    let hole : ZoneRun = c.in-Some.hole in
    let old : List ZoneRun = c.loop-hole.self.met.items in
    let enough : c.args.bits ≤ hole.1.len = (let len = c.from.ensures in let test = c.if-bits-from.true in omega arith) in
    inl (subst (λ (hs : List ZoneRun). find (λ (h : ZoneRun). nat_le c.args.bits h.1.len) hs ≡ None → ⊥) (sym (rw c.in-Some.is at c.in_ok-hole.ensures.met)) (fits_last c.args.bits old hole enough))
