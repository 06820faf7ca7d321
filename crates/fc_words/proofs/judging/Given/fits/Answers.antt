use Rattle.fc_words.proofs.JudgingLemmas.{fits_all}
use Rattle.fc_words.proofs.judging.Given.fits.Goals as goal

pub returns : goal.returns
returns c = λ s h. fits_all s _ _ _ _ _ _ h.0 h.2 h.4 c.in_ok-optional_format.ensures c.in_ok-optional_number.ensures c.in_ok-read_image.ensures
