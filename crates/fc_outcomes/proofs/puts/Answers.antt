use Rattle.fc_outcomes.proofs.lemmas.PutLemmas.{puts_law}
use Rattle.fc_outcomes.proofs.puts.Goals as goal

pub returns : goal.returns
returns c = puts_law
