use Rattle.std.proofs.Common.{rules, lit<}
use borrow.Author.Tests.{tests}
use Rattle.std.proofs.lemmas.Iterator.Search.{all_from_yields_List}
use Rattle.std.proofs.lemmas.Iterator.Splits.{YieldsList-from_str_split}
use Rattle.fc_script.specs.Lines.{is_some_word}
use Rattle.fc_script.proofs.WordLemmas.{some_from_test}
use Rattle.fc_script.proofs.words.are_some_words.Goals as goal

pub returns : goal.returns
returns c =
    all_from_yields_List is_some_word _ _ _ c.all.ensures.ran
    (YieldsList-from_str_split 32 c.args.text.now (lit< tt) c.split.ensures.text c.split.ensures.has_more c.split.ensures.pattern)
    (λ x b q k. search (rules, tests, some_from_test))
