use Rattle.std.proofs.Common.{◌≡◌, ap, ◌∙◌, sym, subst, [], arith}
use Rattle.fc_zone.specs.declared.ZoneShape.{ZoneShape}
use Rattle.fc_newmap.specs.declared.walk.Walk.{Walk}
use Rattle.fc_newmap.specs.Walk.{StandsBefore, holes_in}
use Rattle.fc_newmap.proofs.HoleLemmas.{hole_found, holes_end, holes_on}
use Rattle.fc_newmap.proofs.walk.Walk.next_hole.Goals as goal

pub next_hole_here-requires : goal.next_hole_here-requires
next_hole_here-requires c = let r = c.loop-run.invariant.stands c.requires.0 c.requires.1 in (r.0, r.1.1)

pub returns-in-Some-clause-value : goal.returns-in-Some-clause-value
returns-in-Some-clause-value c = λ left stands.
    let r = c.loop-run.invariant.stands left stands in
    hole_found c.args.map.now left r.0 c.loop-run.self c.next_hole_here.new.self c.in-Some.run' r.1.0 (c.in-Some.ensures.value r.0 r.1.1) c.next_hole_here.ensures.zone.0

pub returns-then-not-next_zone-clause-value : goal.returns-then-not-next_zone-clause-value
returns-then-not-next_zone-clause-value c = λ left stands.
    let r = c.loop-run.invariant.stands left stands in
    let last = c.next_zone.ensures.last c.if-not-next_zone.true in
    let none : c.next_hole_here.new.self.more ≡ 0 = ap (λ (w : Walk). w.more) (sym last.0) ∙ last.1 in
    subst (λ (w : Walk). (holes_in left ≡ []) × StandsBefore c.args.map.now [] w) (sym last.0)
    (holes_end c.args.map.now left r.0 c.loop-run.self c.next_hole_here.new.self r.1.0 (c.in_default.ensures.value r.0 r.1.1) c.next_hole_here.ensures.zone.1 none)

pub next_zone-requires : goal.next_zone-requires
next_zone-requires c =
    let r = c.loop-run.invariant.stands c.requires.0 c.requires.1 in
    let same : c.next_hole_here.new.self.shape.zone ≡ c.loop-run.self.shape.zone = ap (λ (s : ZoneShape). s.zone) c.next_hole_here.ensures.zone.0 in
    let low = r.1.1.low in
    omega (arith, same, low)

pub loop-run-preserved : goal.loop-run-preserved
loop-run-preserved c = record {
  stands = λ left stands.
      let r = c.loop-run.invariant.stands left stands in
      holes_on c.args.map.now left r.0 c.loop-run.self c.next_hole_here.new.self c.next_zone.new.self r.1.0 (c.in_default.ensures.value r.0 r.1.1) c.next_hole_here.ensures.zone.0 c.next_hole_here.ensures.zone.1
      (c.next_zone.ensures.stands c.if-not-next_zone.false);
  onward =
      let less = c.next_zone.ensures.less c.if-not-next_zone.false in
      let short = c.next_zone.ensures.short c.if-not-next_zone.false in
      omega (arith, less, short, c.next_hole_here.ensures.zone.1, c.loop-run.invariant.onward);
}
