use Rattle.std.proofs.Common.{rules, ◌≡◌, ◌∙◌, sym}
use borrow.Author.Tests.{tests}
use Rattle.std.proofs.lemmas.Iterator.{YieldsList-from_slice}
use Rattle.std.proofs.lemmas.Iterator.Search.{position_from_yields_List}
use Rattle.fc_names.specs.Paths.{is_stop}
use Rattle.fc_names.proofs.PathLemmas.{first_stop, cut_at, cut_nowhere}
use Rattle.fc_names.proofs.path.cut.Goals as goal

pub returns-in-Some-clause-parts : goal.returns-in-Some-clause-parts
returns-in-Some-clause-parts c =
    let found : c.position.result ≡ first_stop c.args.text.now =
    position_from_yields_List is_stop _ _ c.position.result c.position.ensures.ran (YieldsList-from_slice c.args.text.now (cc))
    (λ x b q k. search (rules, tests)) in
    cut_at c.args.text.now c.in-Some.at (sym found ∙ c.in-Some.is)

pub returns-in-None-clause-parts : goal.returns-in-None-clause-parts
returns-in-None-clause-parts c =
    let found : c.position.result ≡ first_stop c.args.text.now =
    position_from_yields_List is_stop _ _ c.position.result c.position.ensures.ran (YieldsList-from_slice c.args.text.now (cc))
    (λ x b q k. search (rules, tests)) in
    cut_nowhere c.args.text.now (sym found ∙ c.in-None.is)
