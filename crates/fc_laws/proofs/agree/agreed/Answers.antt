use Rattle.fc_laws.proofs.lemmas.agree.BeforeLemmas.{agreed_law}
use Rattle.fc_laws.proofs.agree.agreed.Goals as goal

pub returns : goal.returns
returns c = agreed_law
