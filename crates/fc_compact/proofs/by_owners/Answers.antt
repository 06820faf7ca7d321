use Rattle.fc_compact.proofs.OwnersLemmas.{by_owners_law}
use Rattle.fc_compact.proofs.by_owners.Goals as goal

pub returns : goal.returns
returns c = by_owners_law
