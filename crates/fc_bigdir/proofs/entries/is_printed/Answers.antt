use Rattle.std.proofs.Common.{rules, nat_le}
use Rattle.std.proofs.lemmas.Iterator.{YieldsList-from_slice}
use Rattle.std.proofs.lemmas.Iterator.Search.{all_from_yields_List}
use borrow.Author.Tests.{tests}
use Rattle.fc_bigdir.proofs.entries.is_printed.Goals as goal

pub returns : goal.returns
returns c =
    all_from_yields_List (λ b. nat_le 32 b) _ _ c.all.result c.all.ensures.ran (YieldsList-from_slice c.args.name.now c.iter.ensures.rest)
    (λ x b q k. search (rules, tests))
