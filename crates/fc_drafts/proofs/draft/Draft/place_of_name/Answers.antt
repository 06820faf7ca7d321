use Rattle.std.proofs.Common.{rules, ◌≡◌, position}
use Rattle.std.proofs.lemmas.Iterator.{YieldsList-from_slice}
use Rattle.std.proofs.lemmas.Iterator.Search.{position_from_yields_List}
use borrow.Author.Tests.{tests}
use Rattle.fc_names.specs.Names.{is_same_name}
use Rattle.fc_dirs.specs.declared.Entry.{Entry}
use Rattle.fc_drafts.specs.Draft.{directory_in}
use Rattle.fc_drafts.proofs.FindLemmas.{found_at}
use Rattle.fc_drafts.proofs.draft.Draft.place_of_name.Goals as goal

pub returns : goal.returns
returns c =
    let name = c.args.name.now in
    let found : c.position.result ≡ position (λ (e : Entry). is_same_name name e.name) c.entries.result.now =
    position_from_yields_List (λ (e : Entry). is_same_name name e.name) _ _ c.position.result c.position.ensures.ran
    (YieldsList-from_slice c.entries.result.now c.iter.ensures.rest) (λ x b q k. search (rules, tests)) in
    record { place = found_at (directory_in c.args.self.now) name c.entries.result.now c.position.result c.entries.ensures.sayable c.entries.ensures.same found }
