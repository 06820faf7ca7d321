use Rattle.std.proofs.Common.{◌∙◌, ap, is_some, option_and_then, sym}
use Rattle.fc_words.specs.CommandLine.{request_from}
use Rattle.fc_words.proofs.JudgingLemmas.{any_end, image_end, value_end}
use Rattle.fc_words.proofs.judging.Given.is_request.Goals as goal

pub returns-in-ValueOf : goal.returns-in-ValueOf
returns-in-ValueOf c = λ s h. sym (ap (λ o. is_some (option_and_then request_from o)) (value_end c.args.self.next c.in-ValueOf.field-0 s c.in-ValueOf.is))

pub returns-in-Any : goal.returns-in-Any
returns-in-Any c = λ s h. c.is_ok-fits.ensures.value ∙ c.fits.ensures s h ∙ ap (λ o. is_some (option_and_then request_from o)) (sym (any_end c.args.self.next s c.in-Any.is))

pub returns-in-Image : goal.returns-in-Image
returns-in-Image c = λ s h. c.is_ok-fits.ensures.value ∙ c.fits.ensures s h ∙ ap (λ o. is_some (option_and_then request_from o)) (sym (image_end c.args.self.next s c.in-Image.is))
