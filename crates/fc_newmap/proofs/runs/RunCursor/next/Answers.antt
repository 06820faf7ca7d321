use Rattle.std.proofs.Common.{sym, ◌∙◌, arith}
use Rattle.fc_newmap.proofs.WalkLemmas.{at_end, passed, taken}
use Rattle.fc_newmap.proofs.runs.RunCursor.next.Goals as goal

pub next-requires : goal.next-requires
next-requires c =
    let stands = c.loop-z.invariant.stands c.requires.0 c.requires.1 in
    (stands.all, stands.walk)

pub returns-then-has_id-clause-value : goal.returns-then-has_id-clause-value
returns-then-has_id-clause-value c = λ left stands.
    taken c.args.map.now left c.loop-z.self.id c.loop-z.self.walk c.next.new.self (c.in-Some.z, c.in-Some.run') (c.loop-z.invariant.stands left stands) c.in-Some.ensures.value (sym c.has_id.ensures ∙ c.if-has_id.true)

pub loop-z-preserved : goal.loop-z-preserved
loop-z-preserved c = record {
  stands = λ left stands.
      passed c.args.map.now left c.loop-z.self.id c.loop-z.self.walk c.next.new.self (c.in-Some.z, c.in-Some.run') (c.loop-z.invariant.stands left stands) c.in-Some.ensures.value (sym c.has_id.ensures ∙ c.if-has_id.false);
  onward = omega (arith, c.in-Some.ensures.onward.0, c.in-Some.ensures.onward.1, c.loop-z.invariant.onward);
}

pub returns-clause-value : goal.returns-clause-value
returns-clause-value c = λ left stands.
    at_end c.args.map.now left c.loop-z.self.id c.loop-z.self.walk c.next.new.self (c.loop-z.invariant.stands left stands) c.in_default.ensures.value
