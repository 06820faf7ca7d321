use Rattle.fc_oldlaws.proofs.lemmas.moves.CompactedLemmas.{compacted_law}
use Rattle.fc_oldlaws.proofs.moves.compacted.Goals as goal

pub returns : goal.returns
returns c = compacted_law c.reads_back.ensures
