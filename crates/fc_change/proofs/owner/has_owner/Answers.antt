use Rattle.std.proofs.Common.{Option, ap, ◌∙◌}
use Rattle.std.specs.Prelude.{is_some}
use Rattle.fc_alloc.specs.declared.owner.Owner.{Owner}
use Rattle.fc_alloc.specs.Owners.{is_node}
use Rattle.fc_dirs.proofs.SearchLemmas.{is_some-find}
use Rattle.fc_change.proofs.owner.has_owner.Goals as goal

pub returns : goal.returns
returns c = c.is_some.ensures ∙ ap (λ (o : Option Owner). is_some o) c.of.ensures ∙ is_some-find (is_node c.args.node) c.args.owners.now
