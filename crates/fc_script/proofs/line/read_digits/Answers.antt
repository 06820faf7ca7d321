use Rattle.std.proofs.Common.{◌∙◌, sym}
use Rattle.fc_script.proofs.PairLemmas.{bytes_of-none, bytes_of-pairs, some_pairs}
use Rattle.fc_script.proofs.line.read_digits.Goals as goal

pub returns-then-are_pairs : goal.returns-then-are_pairs
returns-then-are_pairs c =
    let text = c.args.text.now in
    (bytes_of-pairs text (sym c.eq.ensures ∙ c.if-eq.false), some_pairs text ∙ sym c.are_pairs.ensures ∙ c.if-are_pairs.true)

pub returns-else-are_pairs : goal.returns-else-are_pairs
returns-else-are_pairs c =
    let text = c.args.text.now in
    bytes_of-none text (sym c.eq.ensures ∙ c.if-eq.false) (some_pairs text ∙ sym c.are_pairs.ensures ∙ c.if-are_pairs.false)
