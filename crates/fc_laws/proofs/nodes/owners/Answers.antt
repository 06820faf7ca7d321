use Rattle.fc_laws.proofs.lemmas.nodes.OwnerLemmas.{owner_law}
use Rattle.fc_laws.proofs.nodes.owners.Goals as goal

pub returns : goal.returns
returns c = owner_law
