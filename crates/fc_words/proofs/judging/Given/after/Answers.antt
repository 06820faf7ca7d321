use Rattle.std.proofs.Common.{◌≡◌, ◌∙◌, ◌∷◌, ap, subst, sym}
use Rattle.fc_words.specs.CommandLine.{settings_after, with_word, word_of}
use Rattle.fc_words.specs.Judging.{rest_after, word_in}
use Rattle.fc_words.specs.declared.judging.Name.TheVariants as name
use Rattle.fc_words.specs.declared.judging.Next.TheVariants as next
use Rattle.fc_words.specs.declared.judging.Word.TheVariants as word
use Rattle.fc_words.proofs.JudgingLemmas.{any_next, given_name, image_next, no_value, value_next}
use Rattle.fc_words.proofs.judging.Given.after.Goals as goal

pub returns-in-Image : goal.returns-in-Image
returns-in-Image c = λ s h. given_name name.Image c.args.text c.args.self s c.with.result (λ ws. rest_after c.args.self.next (c.args.text.now ∷ ws) s) h c.with.ensures
    (λ ws. image_next c.args.self.next c.args.text.now ws s c.in-Image.is)

pub returns-in-Plain : goal.returns-in-Plain
returns-in-Plain c = λ s h. given_name c.in-ValueOf.name c.args.text (record c.args.self { next = next.Any }) s c.with-in-Plain.result (λ ws. rest_after c.args.self.next (c.args.text.now ∷ ws) s) h c.with-in-Plain.ensures
    (λ ws. value_next c.args.self.next c.in-ValueOf.name c.args.text.now ws s c.in-ValueOf.is (sym c.word_of.ensures ∙ ap word_in c.in-Plain.is))

pub returns-in_default : goal.returns-in_default
returns-in_default c = λ s h ws. no_value c.args.self.next c.in-ValueOf.name c.word_of.result c.args.text.now ws s c.in-ValueOf.is c.word_of.ensures c.in_default.not-Plain

pub returns-in-EndsOptions : goal.returns-in-EndsOptions
returns-in-EndsOptions c = λ s h. (s, h, λ ws. any_next c.args.self.next word.EndsOptions c.args.text.now ws s c.in-Any.is (sym (ap word_in c.in-EndsOptions.is) ∙ c.word_of-in-Any.ensures))

pub returns-in-Gives : goal.returns-in-Gives
returns-in-Gives c = λ s h. given_name c.in-Gives.name _ (record c.args.self { next = next.Any }) s c.with-in-Gives.result (λ ws. rest_after c.args.self.next (c.args.text.now ∷ ws) s) h c.with-in-Gives.ensures
    (λ ws. any_next c.args.self.next (word.Gives c.in-Gives.name) c.args.text.now ws s c.in-Any.is (sym (ap word_in c.in-Gives.is) ∙ c.word_of-in-Any.ensures))

pub returns-in-Awaits : goal.returns-in-Awaits
returns-in-Awaits c = λ s h. (s, h, λ ws. any_next c.args.self.next (word.Awaits c.in-Awaits.name) c.args.text.now ws s c.in-Any.is (sym (ap word_in c.in-Awaits.is) ∙ c.word_of-in-Any.ensures))

pub returns-in-Sets : goal.returns-in-Sets
returns-in-Sets c = λ s h. given_name c.in-Sets.name c.in-Sets.value (record c.args.self { next = next.Any }) s c.with-in-Sets.result (λ ws. rest_after c.args.self.next (c.args.text.now ∷ ws) s) h c.with-in-Sets.ensures
    (λ ws. any_next c.args.self.next (word.Sets c.in-Sets.name c.in-Sets.value) c.args.text.now ws s c.in-Any.is (sym (ap word_in c.in-Sets.is) ∙ c.word_of-in-Any.ensures))

pub returns-in-Plain-word_of : goal.returns-in-Plain-word_of
returns-in-Plain-word_of c = λ s h. given_name name.Image c.args.text (record c.args.self { next = next.Any }) s c.with-in-Plain-word_of.result (λ ws. rest_after c.args.self.next (c.args.text.now ∷ ws) s) h c.with-in-Plain-word_of.ensures
    (λ ws. any_next c.args.self.next word.Plain c.args.text.now ws s c.in-Any.is (sym (ap word_in c.in-Plain-word_of.is) ∙ c.word_of-in-Any.ensures))

pub returns-in-Refused : goal.returns-in-Refused
returns-in-Refused c = λ s h ws. any_next c.args.self.next word.Refused c.args.text.now ws s c.in-Any.is (sym (ap word_in c.in-Refused.is) ∙ c.word_of-in-Any.ensures)
