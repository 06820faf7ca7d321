use Rattle.std.proofs.Common.{◌≡◌, ◌+◌, ◌-◌, Some, sym, subst, ◌∙◌, arith}
use Rattle.fc_bytes.specs.Bits.{bits}
use Rattle.fc_zone.specs.declared.RunKind.TheVariants.{Hole}
use Rattle.fc_zone.specs.Zone.{EndsInHole, IsRun}
use Rattle.fc_zone.proofs.ZoneLemmas.{IsRun-unique}
use Rattle.fc_zone.proofs.EditLemmas.{run_place}
use Rattle.fc_zone.proofs.BeforeLemmas.{ends_here, held_hole, hole_is, last_ends, last_held}
use Rattle.fc_zone.proofs.reading.hole_before.Goals as goal

pub holder_before-requires-clause-from_first : goal.holder_before-requires-clause-from_first
holder_before-requires-clause-from_first c =
    let h = c.requires.run in
    let place = run_place c.args.shape.now c.args.b.now h.1.1.0 h.1.1.1.0 h.0 h.1.1.1.1 in
    omega (arith, place.0, h.1.0)

pub returns-in_err-hole : goal.returns-in_err-hole
returns-in_err-hole c =
    rw c.from_residual.ensures (λ front rest run zone start before last cut kind.
    let held = c.in_err-hole.ensures.holder front rest run zone start in
    let named = last_held c.args.shape.now c.args.b.now front rest run zone before last cut kind in
    cc)

pub end_of-requires-clause-begins : goal.end_of-requires-clause-begins
end_of-requires-clause-begins c =
    let h = c.requires.run in
    let zone = h.1.1.1.1 in
    let front = h.1.1.0 in
    let has = held_hole front c.in_ok-hole.hole (c.in_ok-hole.ensures.holder front h.1.1.1.0 h.0 zone h.1.0) in
    (c.in_ok-hole.hole + has.hole.len, hole_is c.args.shape.now c.args.b.now front h.1.1.1.0 h.0 zone c.in_ok-hole.hole has)

pub returns-then-end_of-start : goal.returns-then-end_of-start
returns-then-end_of-start c = λ front rest run zone start before last cut kind.
    let shape = c.args.shape.now in
    let s = c.args.b.now in
    let held = c.in_ok-hole.ensures.holder front rest run zone start in
    let named = last_held shape s front rest run zone before last cut kind in
    let same : last.start ≡ c.in_ok-hole.hole = cc in
    let is : IsRun shape (bits s) c.in_ok-hole.hole run.start = subst (λ n. IsRun shape (bits s) n run.start) same (last_ends shape s front rest run zone before last cut) in
    let end : c.end_of.result ≡ run.start = IsRun-unique shape (bits s) c.in_ok-hole.hole c.end_of.result run.start c.end_of.ensures is in
    c.if-end_of-start.true (end ∙ start)

pub returns : goal.returns
returns c = λ front rest run zone start.
    let shape = c.args.shape.now in
    let s = c.args.b.now in
    let is : IsRun shape (bits s) c.in_ok-hole.hole run.start = subst (λ n. IsRun shape (bits s) c.in_ok-hole.hole n) (c.if-end_of-start.false ∙ sym start) c.end_of.ensures in
    let has = held_hole front c.in_ok-hole.hole (c.in_ok-hole.ensures.holder front rest run zone start) in
    subst (λ n. EndsInHole front (Some (record { start = c.in_ok-hole.hole; len = n - c.in_ok-hole.hole; kind = Hole }))) start (ends_here shape s front rest run zone c.in_ok-hole.hole has is)
