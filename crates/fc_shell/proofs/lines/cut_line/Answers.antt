use Rattle.std.proofs.Common.{◌==◌, rules, sym, ◌∙◌}
use borrow.Author.Tests.{tests}
use Rattle.std.proofs.lemmas.Iterator.Search.{position_from_yields_List}
use Rattle.std.proofs.lemmas.Iterator.{YieldsList-from_slice}
use Rattle.fc_shell.proofs.LineLemmas.{line_found, no_line_found}
use Rattle.fc_shell.proofs.lines.cut_line.Goals as goal

pub returns-in-Some-clause-cut : goal.returns-in-Some-clause-cut
returns-in-Some-clause-cut c =
    line_found c.args.text.now c.in-Some.end
    (sym c.in-Some.is ∙ position_from_yields_List (λ b. b == 10) _ _ _ c.position.ensures.ran (YieldsList-from_slice c.args.text.now c.iter.ensures.rest) (λ x b q k. search (rules, tests)))

pub returns-in-None-clause-cut : goal.returns-in-None-clause-cut
returns-in-None-clause-cut c =
    no_line_found c.args.text.now
    (sym c.in-None.is ∙ position_from_yields_List (λ b. b == 10) _ _ _ c.position.ensures.ran (YieldsList-from_slice c.args.text.now c.iter.ensures.rest) (λ x b q k. search (rules, tests)))
