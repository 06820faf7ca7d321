use Rattle.std.proofs.Common.{rules, ◌≡◌, ◌∙◌, sym}
use Rattle.std.specs.List.{list_any}
use Rattle.std.proofs.lemmas.Iterator.{YieldsList-from_slice}
use Rattle.std.proofs.lemmas.Iterator.Search.{any_from_yields_List}
use borrow.Author.Tests.{tests}
use Rattle.fc_names.specs.Names.{is_same_name}
use Rattle.fc_dirs.specs.declared.Entry.{Entry}
use Rattle.fc_dirs.proofs.SearchLemmas.{is_some-find}
use Rattle.fc_smalldir.proofs.entries.has_name.Goals as goal

pub returns : goal.returns
returns c =
    let any : c.any.result ≡ list_any (λ (e : Entry). is_same_name c.args.name.now e.name) c.args.entries.now =
    any_from_yields_List (λ (e : Entry). is_same_name c.args.name.now e.name) _ _ c.any.result c.any.ensures.ran (YieldsList-from_slice c.args.entries.now c.iter.ensures.rest)
    (λ x b q k. search (rules, tests)) in
    any ∙ sym (is_some-find (λ (e : Entry). is_same_name c.args.name.now e.name) c.args.entries.now)
