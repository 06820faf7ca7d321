use Rattle.fc_zone.proofs.SpellingLemmas.{one_spelling_of}
use Rattle.fc_zone.proofs.laws.one_spelling.Goals as goal

pub returns : goal.returns
returns c = one_spelling_of
