use Rattle.fc_safe.proofs.PlainLawLemmas.{plain_law}
use Rattle.fc_safe.proofs.laws.plain.Goals as goal

pub returns : goal.returns
returns c = plain_law
