use Rattle.std.proofs.Common.{◌∙◌, sym}
use Rattle.std.proofs.lemmas.Str.{IsUtf8-from_ascii}
use Rattle.fc_script.proofs.WordLemmas.{printed_ascii}
use Rattle.fc_script.proofs.words.printed_text.Goals as goal

pub returns-in-Err : goal.returns-in-Err
returns-in-Err c =
    absurd (c.in-Err.ensures.cases.0 (IsUtf8-from_ascii _ (printed_ascii c.args.line.now (sym c.are_printed.ensures ∙ c.if-not-are_printed.false))))
