use Rattle.std.proofs.Common.{◌+◌, ◌*◌, ◌%◌, ◌^◌, take, get_or, ap, ◌∙◌, refl}
use Rattle.fc_bigdir.specs.Twins.{first_letters}
use Rattle.fc_bigdir.proofs.LetterLemmas.{letter_more, letters_end}
use Rattle.fc_bigdir.proofs.twins.first_letters.Goals as goal

pub loop-c-preserved : goal.loop-c-preserved
loop-c-preserved c =
    let xs = take c.min.result c.bytes-bytes.result.now in
    ap (λ r. c.loop-c.letters % 2 ^ 59 * 32 + r) c.from.ensures
    ∙ letter_more xs c.loop-c.c-index c.loop-c.letters (get_or xs c.loop-c.c-index 0) c.loop-c-test.true refl c.loop-c.invariant

pub returns : goal.returns
returns c =
    letters_end c.bytes-bytes.result.now c.min.result c.loop-c.c-index c.loop-c.letters c.min.ensures c.loop-c-test.false c.loop-c.invariant
    ∙ ap first_letters c.bytes-bytes.ensures.same
