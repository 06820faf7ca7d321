use Rattle.fc_outcomes.proofs.lemmas.OldDoneLemmas.{done_law}
use Rattle.fc_outcomes.proofs.done.Goals as goal

pub returns : goal.returns
returns c = done_law
