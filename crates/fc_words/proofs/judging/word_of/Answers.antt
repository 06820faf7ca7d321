use Rattle.std.proofs.Common.{◌≡◌, ◌≢◌, ◌∙◌, ◌∷◌, ℕ, List, lit<, sym}
use Rattle.std.proofs.lemmas.Str.Pattern.{strip_prefix_char}
use Rattle.fc_words.proofs.JudgingLemmas.{plain_word, short_option, some_bytes}
use Rattle.fc_words.proofs.judging.word_of.Goals as goal

pub returns-in_default : goal.returns-in_default
returns-in_default c =
    let text = c.args.text.now in
    let stripped = strip_prefix_char 45 text c.strip_prefix.result c.strip_prefix.ensures.cases (lit< tt) in
    let differs : (rest : List ℕ) → text ≢ 45 ∷ rest = rw c.in_default.is at stripped in
    sym (plain_word text differs)

pub returns-in_default-strip_prefix : goal.returns-in_default-strip_prefix
returns-in_default-strip_prefix c =
    let text = c.args.text.now in
    let after = c.in-Some.after.now in
    let stripped = strip_prefix_char 45 text c.strip_prefix.result c.strip_prefix.ensures.cases (lit< tt) in
    let first : text ≡ 45 ∷ after = rw c.in-Some.is at stripped in
    let again = strip_prefix_char 45 after c.strip_prefix-2.result c.strip_prefix-2.ensures.cases (lit< tt) in
    let differs : (rest : List ℕ) → after ≢ 45 ∷ rest = rw c.in_default-strip_prefix.is at again in
    sym (short_option text after first (some_bytes after (sym c.is_empty.ensures ∙ c.if-is_empty.false)) differs)
