use Rattle.fc_safeedits.proofs.lemmas.RelocatedNodesLemmas.{relocation_law}
use Rattle.fc_safeedits.proofs.relocation.Goals as goal

pub returns : goal.returns
returns c = relocation_law
