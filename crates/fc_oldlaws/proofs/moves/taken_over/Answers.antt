use Rattle.fc_oldlaws.proofs.lemmas.moves.AgreedLemmas.{taken_over_law}
use Rattle.fc_oldlaws.proofs.moves.taken_over.Goals as goal

pub returns : goal.returns
returns c = taken_over_law c.reads_back.ensures
