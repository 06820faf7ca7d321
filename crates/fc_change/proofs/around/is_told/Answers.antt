use Rattle.std.proofs.Common.{rules, ◌≡◌, ◌==◌}
use Rattle.std.specs.List.{list_any}
use Rattle.std.proofs.lemmas.Iterator.{YieldsList-from_slice}
use Rattle.std.proofs.lemmas.Iterator.Search.{any_from_yields_List}
use borrow.Author.Tests.{tests}
use Rattle.fc_change.specs.declared.change.Says.{Says}
use Rattle.fc_change.proofs.ToldLemmas.{told_is}
use Rattle.fc_change.proofs.around.is_told.Goals as goal

pub returns-else-first-n : goal.returns-else-first-n
returns-else-first-n c =
    let any : c.any.result ≡ list_any (λ (s : Says). s.node == c.args.n) c.args.last.now =
    any_from_yields_List (λ (s : Says). s.node == c.args.n) _ _ c.any.result c.any.ensures.ran (YieldsList-from_slice c.args.last.now c.iter.ensures.rest)
    (λ x b q k. search (rules, tests)) in
    told_is c.args.first c.args.n c.args.last.now c.any.result c.if-first-n.false any
