use Rattle.fc_oldlaws.proofs.lemmas.moves.WritesLemmas.{rewritten_law}
use Rattle.fc_oldlaws.proofs.moves.rewritten.Goals as goal

pub returns : goal.returns
returns c = rewritten_law
