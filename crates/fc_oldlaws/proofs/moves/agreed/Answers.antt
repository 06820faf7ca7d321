use Rattle.fc_oldlaws.proofs.lemmas.moves.AgreedLemmas.{agreed_law}
use Rattle.fc_oldlaws.proofs.moves.agreed.Goals as goal

pub returns : goal.returns
returns c = agreed_law
