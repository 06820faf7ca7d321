use Rattle.fc_zone.proofs.SpellingLemmas.{one_result}
use Rattle.fc_zone.proofs.laws.one_result.Goals as goal

pub returns : goal.returns
returns c = one_result
