use Rattle.std.proofs.Common.{◌≡◌, ◌+◌, ◌-◌, ◌*◌, ◌∙◌, arith}
use Rattle.fc_dirs.specs.Small.{tail_of}
use Rattle.fc_smalldir.proofs.PlaceLemmas.{entries_end_here, entries_go_on}
use Rattle.fc_smalldir.proofs.entries.count_entries.Goals as goal

pub loop-i-init : goal.loop-i-init
loop-i-init c =
    let all : c.places-places.result - 0 ≡ (tail_of c.args.form).places = omega (arith, c.places-places.ensures) in
    rw all (omega arith)

pub loop-i-preserved : goal.loop-i-preserved
loop-i-preserved c =
    let i = c.loop-i.i in
    let b = c.args.b.now in
    let more = entries_go_on (c.places-places.result - i) (c.places-places.result - (i + 1)) c.args.form b (5 + 26 * i) (omega arith) c.if-b-i-eq0.false in
    let next : 5 + 26 * i + 26 ≡ 5 + 26 * (i + 1) = omega arith in
    c.loop-i.invariant ∙ omega (arith, rw next at more)

pub returns-then-b-i-eq0-clause-count : goal.returns-then-b-i-eq0-clause-count
returns-then-b-i-eq0-clause-count c =
    let none = entries_end_here (c.places-places.result - c.loop-i.i) c.args.form c.args.b.now (5 + 26 * c.loop-i.i) c.if-b-i-eq0.true in
    omega (arith, c.loop-i.invariant, none)

pub returns-clause-count : goal.returns-clause-count
returns-clause-count c =
    let left : c.places-places.result - c.loop-i.i ≡ 0 = omega arith in
    let invariant = rw left at c.loop-i.invariant in
    omega (arith, invariant)
