use Rattle.std.proofs.Common.{not, refl, sym, ap, ◌∙◌, arith}
use Rattle.std.specs.Prelude.{◌==◌}
use Rattle.std.proofs.lemmas.Bool.{eq-eqb, ne_eqb}
use Rattle.fc_image.specs.Opening.{byte_compared, compared_offsets}
use Rattle.fc_volume.proofs.MapsLemmas.{found_at, not_at, nowhere}
use Rattle.fc_volume.proofs.maps.difference.Goals as goal

pub returns-then-byte_compared : goal.returns-then-byte_compared
returns-then-byte_compared c =
    let at = c.loop-at-test.element_fits in
    let differs = ap not (ne_eqb _ _ (λ e. c.if-byte_compared.true (c.byte_compared.ensures ∙ e ∙ sym c.byte_compared-in-loop-at.ensures))) in
    sym (found_at (λ at. not (byte_compared c.args.r.now at == byte_compared c.args.s.now at)) compared_offsets c.loop-at.at-index _ (omega (arith, c.loop-at-test.true)) c.loop-at.invariant.1 refl differs)

pub loop-at-preserved : goal.loop-at-preserved
loop-at-preserved c =
    let same = ap not (eq-eqb _ _ (sym c.byte_compared.ensures ∙ c.if-byte_compared.false ∙ c.byte_compared-in-loop-at.ensures)) in
    (refl, not_at (λ at. not (byte_compared c.args.r.now at == byte_compared c.args.s.now at)) compared_offsets c.loop-at.at-index _ (omega (arith, c.loop-at-test.true)) c.loop-at.invariant.1 refl same)

pub returns : goal.returns
returns c = sym (nowhere (λ at. not (byte_compared c.args.r.now at == byte_compared c.args.s.now at)) compared_offsets c.loop-at.at-index (omega (arith, c.loop-at-test.false)) c.loop-at.invariant.1)
