use Rattle.std.proofs.Common.{◌≡◌, ap, ◌∙◌, sym, subst, List, arith}
use Rattle.fc_newmap.specs.declared.walk.Walk.{Walk}
use Rattle.fc_newmap.specs.Map.{ZoneRun}
use Rattle.fc_newmap.specs.Walk.{StandsBefore, runs_after}
use Rattle.fc_newmap.proofs.WalkLemmas.{none_more, same_low}
use Rattle.fc_newmap.proofs.walk.Walk.next.Goals as goal

pub returns-in-Some-clause-value : goal.returns-in-Some-clause-value
returns-in-Some-clause-value c = λ left stands. c.in-Some.ensures.value left (c.loop-run.invariant.stands left stands)

pub returns-then-not-next_zone-clause-value : goal.returns-then-not-next_zone-clause-value
returns-then-not-next_zone-clause-value c = λ left stands.
    let before = c.loop-run.invariant.stands left stands in
    let r = c.in_default.ensures.value left before in
    let last = c.next_zone.ensures.last c.if-not-next_zone.true in
    none_more c.args.map.now left c.loop-run.self c.next_zone.new.self before (last.0 ∙ r.0, r.1) last.1

pub next_zone-requires : goal.next_zone-requires
next_zone-requires c =
    let before = c.loop-run.invariant.stands c.requires.0 c.requires.1 in
    let r = c.in_default.ensures.value c.requires.0 before in
    same_low c.args.map.now c.requires.0 c.loop-run.self c.next_here.new.self before r.0

pub loop-run-smaller : goal.loop-run-smaller
loop-run-smaller c =
    let before = c.loop-run.invariant.stands c.requires.0 c.requires.1 in
    let r = c.in_default.ensures.value c.requires.0 before in
    let same : c.next_here.new.self.more ≡ c.loop-run.self.more = ap (λ (w : Walk). w.more) r.0 in
    omega (arith, same, c.next_zone.ensures.less c.if-not-next_zone.false)

pub loop-run-preserved : goal.loop-run-preserved
loop-run-preserved c = record {
  stands = λ left stands.
      let before = c.loop-run.invariant.stands left stands in
      let r = c.in_default.ensures.value left before in
      subst (λ (l : List ZoneRun). StandsBefore c.args.map.now l c.next_zone.new.self) (ap (runs_after c.args.map.now) r.0 ∙ sym r.1) (c.next_zone.ensures.stands c.if-not-next_zone.false);
  onward =
      let before = c.loop-run.invariant.stands c.requires.0 c.requires.1 in
      let r = c.in_default.ensures.value c.requires.0 before in
      let same : c.next_here.new.self.more ≡ c.loop-run.self.more = ap (λ (w : Walk). w.more) r.0 in
      let less = c.next_zone.ensures.less c.if-not-next_zone.false in
      let short = c.next_zone.ensures.short c.if-not-next_zone.false in
      omega (arith, same, less, short, c.loop-run.invariant.onward);
}
