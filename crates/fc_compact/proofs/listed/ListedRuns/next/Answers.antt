use Rattle.std.proofs.Common.{◌≡◌, ◌++◌, List, ℕ, [], drop, refl, sym, ap, ap₂, subst, ◌∙◌, arith}
use Rattle.fc_newmap.specs.Map.{ZoneRun}
use Rattle.fc_compact.specs.declared.listed.ListedRuns.{ListedRuns}
use Rattle.fc_compact.specs.Listed.{StandsIn, runs_listed}
use Rattle.fc_compact.proofs.listed.ListedRuns.next.Goals as goal

pub returns-in-Some-clause-value : goal.returns-in-Some-clause-value
returns-in-Some-clause-value c = λ left stands.
    let walk = c.loop-run.self in
    let was = c.loop-run.invariant.stands left stands in
    let r = c.in-Some.ensures.value was.here was.cursor in
    let later = runs_listed c.args.map.now walk.id (drop walk.come walk.zones.items) in
    (r.0 ++ later, (was.rest ∙ ap (λ (ps : List ZoneRun). ps ++ later) r.1.0, record { here = r.0; cursor = r.1.1; low = was.low; rest = refl }))

pub next_zone-requires : goal.next_zone-requires
next_zone-requires c = let was = c.loop-run.invariant.stands c.requires.0 c.requires.1 in was.low

pub returns-then-not-next_zone-clause-value : goal.returns-then-not-next_zone-clause-value
returns-then-not-next_zone-clause-value c = λ left stands.
    let m = c.args.map.now in
    let walk = c.loop-run.self in
    let was = c.loop-run.invariant.stands left stands in
    let r = c.in_default.ensures.value was.here was.cursor in
    let last = c.next_zone.ensures.last c.if-not-next_zone.true in
    let left_is : left ≡ [] = was.rest ∙ ap₂ (λ (ps : List ZoneRun) (zs : List ℕ). ps ++ runs_listed m walk.id zs) r.0 last.1 in
    (left_is, subst (λ (w : ListedRuns). StandsIn m [] w) (sym last.0) (record { here = []; cursor = r.1; low = was.low; rest = ap (runs_listed m walk.id) (sym last.1) }))

pub loop-run-preserved : goal.loop-run-preserved
loop-run-preserved c = record {
  stands = λ left stands.
      let m = c.args.map.now in
      let walk = c.loop-run.self in
      let was = c.loop-run.invariant.stands left stands in
      let r = c.in_default.ensures.value was.here was.cursor in
      let later = runs_listed m walk.id (drop walk.come walk.zones.items) in
      let e : left ≡ later = was.rest ∙ ap (λ (ps : List ZoneRun). ps ++ later) r.0 in
      subst (λ (l : List ZoneRun). StandsIn m l c.next_zone.new.self) (sym e) (c.next_zone.ensures.stands c.if-not-next_zone.false);
  onward =
      let less = c.next_zone.ensures.less c.if-not-next_zone.false in
      omega (arith, less, c.loop-run.invariant.onward);
}

pub next-requires : goal.next-requires
next-requires c = let was = c.loop-run.invariant.stands c.requires.0 c.requires.1 in (was.here, was.cursor)
