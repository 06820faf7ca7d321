use Rattle.std.proofs.Common.{◌∙◌, sym}
use Rattle.fc_script.proofs.NumberLemmas.{word_numeral, word_of-is}
use Rattle.fc_script.proofs.numbers.read_word.Goals as goal

pub read_number-requires-clause-digits : goal.read_number-requires-clause-digits
read_number-requires-clause-digits c =
    word_numeral c.args.text.now c.if-text-eq8.true (sym c.are_hex_digits.ensures ∙ c.if-are_hex_digits.true)

pub returns-then-are_hex_digits : goal.returns-then-are_hex_digits
returns-then-are_hex_digits c =
    c.read_number.ensures ∙ word_of-is c.args.text.now c.if-text-eq8.true (sym c.are_hex_digits.ensures ∙ c.if-are_hex_digits.true)
