use Rattle.fc_oldlaws.proofs.lemmas.moves.WalkLemmas.{moved_walk_law}
use Rattle.fc_oldlaws.proofs.moves.walks.Goals as goal

pub returns : goal.returns
returns c = moved_walk_law
