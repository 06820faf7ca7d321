use Rattle.fc_edits.proofs.lemmas.NewAgreeLemmas.{agree_law}
use Rattle.fc_edits.proofs.agree.Goals as goal

pub returns : goal.returns
returns c = agree_law
