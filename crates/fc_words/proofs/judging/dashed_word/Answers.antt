use Rattle.std.proofs.Common.{◌≡◌, ◌∙◌, Some, ap, lit<, sym}
use Rattle.std.proofs.lemmas.Str.Pattern.{split_once_first}
use Rattle.fc_words.specs.CommandLine.{dashed_word, option_alone, option_named, option_with}
use Rattle.fc_words.specs.Judging.{kind_of}
use Rattle.fc_words.proofs.JudgingLemmas.{dashed_cut}
use Rattle.fc_words.proofs.judging.dashed_word.Goals as goal

pub returns-in-Some-option_named : goal.returns-in-Some-option_named
returns-in-Some-option_named c =
    let text = c.args.text.now in
    let parts = dashed_cut text c.split_once.result c.requires (split_once_first 61 text c.split_once.result c.split_once.ensures.cases (lit< tt)) in
    let cut : dashed_word text ≡ option_with (option_named c.in-Some.name.now) c.in-Some.value.now = rw c.in-Some.is at parts in
    let named : Some (kind_of c.in-Some-option_named.name) ≡ option_named c.in-Some.name.now = rw c.in-Some-option_named.is at c.option_named.ensures in
    c.option_with.ensures ∙ ap (λ o. option_with o c.in-Some.value.now) named ∙ sym cut

pub returns-in-Some-option_named-2 : goal.returns-in-Some-option_named-2
returns-in-Some-option_named-2 c =
    let text = c.args.text.now in
    let parts = dashed_cut text c.split_once.result c.requires (split_once_first 61 text c.split_once.result c.split_once.ensures.cases (lit< tt)) in
    let cut : dashed_word text ≡ option_alone (option_named text) = rw c.in-None.is at parts in
    let named : Some (kind_of c.in-Some-option_named-2.name) ≡ option_named text = rw c.in-Some-option_named-2.is at c.option_named-in-None.ensures in
    c.option_alone.ensures ∙ ap option_alone named ∙ sym cut
