use Rattle.std.proofs.Common.{rules, ◌≡◌, ◌∙◌, position}
use Rattle.std.proofs.lemmas.Iterator.{YieldsList-from_slice}
use Rattle.std.proofs.lemmas.Iterator.Search.{position_from_yields_List}
use borrow.Author.Tests.{tests}
use Rattle.fc_names.specs.Names.{is_name_before}
use Rattle.fc_dirs.specs.declared.Entry.{Entry}
use Rattle.fc_dirs.proofs.SearchLemmas.{place_or_end}
use Rattle.fc_dirs.proofs.entries.place_of.Goals as goal

pub returns-clause-place : goal.returns-clause-place
returns-clause-place c =
    let found : c.position.result ≡ position (λ (e : Entry). is_name_before c.args.name.now e.name) c.args.entries.now =
    position_from_yields_List (λ (e : Entry). is_name_before c.args.name.now e.name) _ _ c.position.result c.position.ensures.ran
    (YieldsList-from_slice c.args.entries.now c.iter.ensures.rest) (λ x b q k. search (rules, tests)) in
    c.unwrap_or.ensures ∙ place_or_end (λ (e : Entry). is_name_before c.args.name.now e.name) c.args.entries.now c.position.result found
