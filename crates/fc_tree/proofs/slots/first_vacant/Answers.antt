use Rattle.std.proofs.Common.{rules, ◌≡◌, ◌+◌, ◌∙◌, length, drop, position, sym, ap, arith}
use Rattle.std.specs.Prelude.{is_none}
use Rattle.std.specs.Option.{unwrap_or}
use Rattle.std.proofs.lemmas.List.{length-drop}
use Rattle.std.proofs.lemmas.Iterator.{YieldsList-from_slice}
use Rattle.std.proofs.lemmas.Iterator.Search.{position_from_yields_List}
use borrow.Author.Tests.{tests}
use Rattle.fc_tree.proofs.ChangeLemmas.{vacant_found, rest_whole}
use Rattle.fc_tree.proofs.slots.first_vacant.Goals as goal

pub returns-in-Some-clause-number : goal.returns-in-Some-clause-number
returns-in-Some-clause-number c =
    let slots = c.args.slots.now in
    let least = c.args.least in
    let found : c.position.result ≡ position is_none (drop least slots) =
    position_from_yields_List is_none _ _ c.position.result c.position.ensures.ran (YieldsList-from_slice (drop least slots) (c.iter.ensures.rest ∙ rest_whole slots least))
    (λ x b q k. search (rules, tests)) in
    (vacant_found slots least (least + c.in-Some.at) c.position.result c.requires.within c.requires.full found (ap (λ r. least + unwrap_or r (length (drop least slots))) (sym c.in-Some.is))).number

pub returns-in-Some-clause-full : goal.returns-in-Some-clause-full
returns-in-Some-clause-full c =
    let slots = c.args.slots.now in
    let least = c.args.least in
    let found : c.position.result ≡ position is_none (drop least slots) =
    position_from_yields_List is_none _ _ c.position.result c.position.ensures.ran (YieldsList-from_slice (drop least slots) (c.iter.ensures.rest ∙ rest_whole slots least))
    (λ x b q k. search (rules, tests)) in
    (vacant_found slots least (least + c.in-Some.at) c.position.result c.requires.within c.requires.full found (ap (λ r. least + unwrap_or r (length (drop least slots))) (sym c.in-Some.is))).full

pub returns-in-None-clause-number : goal.returns-in-None-clause-number
returns-in-None-clause-number c =
    let slots = c.args.slots.now in
    let least = c.args.least in
    let found : c.position.result ≡ position is_none (drop least slots) =
    position_from_yields_List is_none _ _ c.position.result c.position.ensures.ran (YieldsList-from_slice (drop least slots) (c.iter.ensures.rest ∙ rest_whole slots least))
    (λ x b q k. search (rules, tests)) in
    (vacant_found slots least (length slots) c.position.result c.requires.within c.requires.full found (omega (arith, c.requires.within, length-drop least slots) ∙ ap (λ r. least + unwrap_or r (length (drop least slots))) (sym c.in-None.is))).number

pub returns-in-None-clause-full : goal.returns-in-None-clause-full
returns-in-None-clause-full c =
    let slots = c.args.slots.now in
    let least = c.args.least in
    let found : c.position.result ≡ position is_none (drop least slots) =
    position_from_yields_List is_none _ _ c.position.result c.position.ensures.ran (YieldsList-from_slice (drop least slots) (c.iter.ensures.rest ∙ rest_whole slots least))
    (λ x b q k. search (rules, tests)) in
    (vacant_found slots least (length slots) c.position.result c.requires.within c.requires.full found (omega (arith, c.requires.within, length-drop least slots) ∙ ap (λ r. least + unwrap_or r (length (drop least slots))) (sym c.in-None.is))).full
