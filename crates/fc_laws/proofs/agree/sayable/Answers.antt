use Rattle.fc_laws.proofs.lemmas.agree.SayLemmas.{say_law}
use Rattle.fc_laws.proofs.agree.sayable.Goals as goal

pub returns : goal.returns
returns c = say_law
