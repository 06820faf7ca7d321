use Rattle.fc_oldlaws.proofs.lemmas.moves.WritesLemmas.{directories_law}
use Rattle.fc_oldlaws.proofs.moves.directories.Goals as goal

pub returns : goal.returns
returns c = directories_law
