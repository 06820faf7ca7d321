use Rattle.fc_oldlaws.proofs.lemmas.moves.AgreedLemmas.{behind_law}
use Rattle.fc_oldlaws.proofs.moves.behind.Goals as goal

pub returns : goal.returns
returns c = behind_law
