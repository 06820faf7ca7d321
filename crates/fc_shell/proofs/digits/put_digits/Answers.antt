use Rattle.std.proofs.Common.{◌∙◌, ◌*◌, ◌+◌, [], set, sym, refl, arith}
use Rattle.std.proofs.lemmas.List.{length-set}
use Rattle.fc_shell.proofs.DigitLemmas.{digits_more, no_digits}
use Rattle.fc_shell.proofs.digits.put_digits.Goals as goal

pub loop-i-init : goal.loop-i-init
loop-i-init c = record { long = c.requires; digits = sym (no_digits [] refl) }

pub loop-i-preserved : goal.loop-i-preserved
loop-i-preserved c =
    let inv = c.loop-i.invariant in
    let i = c.loop-i.i in
    record {
      long = length-set (set c.loop-i.text (2 * i) c.digit.result) (2 * i + 1) c.digit-in-loop-i.result ∙ length-set c.loop-i.text (2 * i) c.digit.result ∙ inv.long;
      digits = digits_more c.args.bytes.now c.loop-i.text i c.digit.result c.digit-in-loop-i.result (omega (arith, c.loop-i-test.true)) inv.long inv.digits c.digit.ensures c.digit-in-loop-i.ensures;
    }
