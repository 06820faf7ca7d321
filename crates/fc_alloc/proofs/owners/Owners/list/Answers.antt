use Rattle.std.proofs.Common.{subst}
use Rattle.fc_alloc.specs.Owners.{HaveOwnNodes}
use Rattle.fc_alloc.proofs.PlaceLemmas.{own_nodes}
use Rattle.fc_alloc.proofs.owners.Owners.list.Goals as goal

pub returns-clause-nodes : goal.returns-clause-nodes
returns-clause-nodes c = subst HaveOwnNodes c.self.view_is (own_nodes c.self.inside.list.items c.self.inside.places.items c.self.invariant.placed)
