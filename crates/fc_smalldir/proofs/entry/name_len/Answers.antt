use Rattle.std.proofs.Common.{rules, ◌≡◌, ap, ◌∙◌, position, nat_lt, take}
use Rattle.std.proofs.lemmas.Iterator.{YieldsList-from_slice}
use Rattle.std.proofs.lemmas.Iterator.Search.{position_from_yields_List}
use borrow.Author.Tests.{tests}
use Rattle.fc_dirs.proofs.SearchLemmas.{place_or_end, printed_len}
use Rattle.fc_smalldir.proofs.entry.name_len.Goals as goal

pub returns-clause-name : goal.returns-clause-name
returns-clause-name c =
    let found : c.position.result ≡ position (λ b. nat_lt b 32) c.args.field.now =
    position_from_yields_List (λ b. nat_lt b 32) _ _ c.position.result c.position.ensures.ran (YieldsList-from_slice c.args.field.now c.iter.ensures.rest)
    (λ x b q k. search (rules, tests)) in
    let place = place_or_end (λ b. nat_lt b 32) c.args.field.now c.position.result found ∙ printed_len c.args.field.now in
    ap (λ n. take n c.args.field.now) (c.unwrap_or.ensures ∙ place)
