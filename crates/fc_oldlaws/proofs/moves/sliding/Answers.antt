use Rattle.fc_oldlaws.proofs.lemmas.moves.OwnedLemmas.{sliding_law}
use Rattle.fc_oldlaws.proofs.moves.sliding.Goals as goal

pub returns : goal.returns
returns c = sliding_law
