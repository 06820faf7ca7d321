use Rattle.std.proofs.Common.{sym, ap, ◌∙◌, arith}
use Rattle.fc_bytes.specs.Bits.{bits}
use Rattle.fc_zone.specs.Zone.{hole_from}
use Rattle.fc_zone.proofs.CursorLemmas.{hole_ahead, stands_before}
use Rattle.fc_zone.proofs.EditLemmas.{run_place}
use Rattle.fc_zone.proofs.cursor.Cursor.before_run.Goals as goal

pub holder_before-holder-requires-clause-from_first : goal.holder_before-holder-requires-clause-from_first
holder_before-holder-requires-clause-from_first c =
    let h = c.requires.run in
    let place = run_place c.args.shape.now c.args.b.now h.1.1.0 h.1.1.1.0 h.0 h.1.1.1.1 in
    omega (arith, place.0, h.1.0)

pub returns : goal.returns
returns c = λ front rest run zone start.
    let shape = c.args.shape.now in
    let b = c.args.b.now in
    stands_before shape b front rest run (record { at = c.args.start; hole = c.hole_from-hole.result }) zone (sym start)
    (c.hole_from-hole.ensures ∙ ap (hole_from shape (bits b)) (c.holder_before-holder.ensures.holder front rest run zone start) ∙ hole_ahead shape b front rest run zone)
