use Rattle.fc_oldlaws.proofs.lemmas.moves.ReadyLemmas.{ready_law}
use Rattle.fc_oldlaws.proofs.moves.ready.Goals as goal

pub returns : goal.returns
returns c = ready_law
