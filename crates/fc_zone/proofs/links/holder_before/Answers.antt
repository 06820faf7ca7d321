use Rattle.std.proofs.Common.{◌≡◌, arith}
use Rattle.fc_zone.proofs.HolderLemmas.{seen_none, seen_more, seen_fits, holder_fits, holder_below, seen_all}
use Rattle.fc_zone.proofs.links.holder_before.Goals as goal

pub loop-next-init : goal.loop-next-init
loop-next-init c = rw c.first_hole-next.ensures (seen_none c.args.shape.now c.args.b.now c.args.at c.requires.zone)

pub next_hole-next-requires-clause-within : goal.next_hole-next-requires-clause-within
next_hole-next-requires-clause-within c =
    let inv = c.loop-next.invariant in
    let fits = seen_fits c.args.shape.now c.args.b.now c.args.at c.loop-next.holder c.in-Some.hole inv.0 inv.1 c.requires.zone (rw c.in-Some.is at inv.2) in
    omega arith

pub loop-next-preserved : goal.loop-next-preserved
loop-next-preserved c =
    let inv = c.loop-next.invariant in
    rw c.next_hole-next.ensures (seen_more c.args.shape.now c.args.b.now c.args.at c.loop-next.holder c.in-Some.hole inv.0 inv.1 (rw c.in-Some.is at inv.2) (omega arith))

pub returns-then-hole-at-clause-holder : goal.returns-then-hole-at-clause-holder
returns-then-hole-at-clause-holder c =
    let inv = c.loop-next.invariant in
    seen_all c.args.shape.now c.args.b.now c.args.at c.loop-next.holder c.loop-next.next inv.0 inv.1 inv.2
    (λ p e. let same : p ≡ c.in-Some.hole = cc (e, c.in-Some.is) in omega arith)

pub returns-then-hole-at-clause-within : goal.returns-then-hole-at-clause-within
returns-then-hole-at-clause-within c =
    let inv = c.loop-next.invariant in
    holder_fits c.args.shape.now c.args.b.now c.args.at c.loop-next.holder c.loop-next.next inv.0 inv.1 c.requires.zone inv.2

pub returns-in_default-clause-holder : goal.returns-in_default-clause-holder
returns-in_default-clause-holder c =
    let inv = c.loop-next.invariant in
    seen_all c.args.shape.now c.args.b.now c.args.at c.loop-next.holder c.loop-next.next inv.0 inv.1 inv.2
    (λ p e. absurd (c.in_default.not-Some p e))

pub returns-in_default-clause-within : goal.returns-in_default-clause-within
returns-in_default-clause-within c =
    let inv = c.loop-next.invariant in
    holder_fits c.args.shape.now c.args.b.now c.args.at c.loop-next.holder c.loop-next.next inv.0 inv.1 c.requires.zone inv.2

pub returns-then-hole-at-clause-before : goal.returns-then-hole-at-clause-before
returns-then-hole-at-clause-before c =
    let inv = c.loop-next.invariant in
    holder_below c.args.shape.now c.args.b.now c.args.at c.loop-next.holder c.loop-next.next inv.0 inv.1 inv.2 (omega arith)

pub returns-in_default-clause-before : goal.returns-in_default-clause-before
returns-in_default-clause-before c =
    let inv = c.loop-next.invariant in
    holder_below c.args.shape.now c.args.b.now c.args.at c.loop-next.holder c.loop-next.next inv.0 inv.1 inv.2 (omega arith)
