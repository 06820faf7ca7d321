use Rattle.std.proofs.Common.{◌∙◌, sym}
use Rattle.fc_script.proofs.NumberLemmas.{decimal_numeral, length_of-is}
use Rattle.fc_script.proofs.numbers.read_length.Goals as goal

pub read_number-requires-clause-digits : goal.read_number-requires-clause-digits
read_number-requires-clause-digits c = decimal_numeral c.args.text.now (sym c.is_decimal.ensures ∙ c.if-is_decimal.true)

pub returns-then-is_decimal : goal.returns-then-is_decimal
returns-then-is_decimal c = c.read_number.ensures ∙ length_of-is c.args.text.now (sym c.is_decimal.ensures ∙ c.if-is_decimal.true)
