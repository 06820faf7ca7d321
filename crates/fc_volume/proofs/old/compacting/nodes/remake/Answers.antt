use Rattle.std.proofs.Common.{◌∙◌, ap, sym}
use Rattle.fc_alloc.specs.declared.owner.Owner.{Owner}
use Rattle.fc_alloc.specs.Owners.{with_changed}
use Rattle.fc_space.specs.Space.{layout_of}
use Rattle.fc_tree.specs.Nodes.{nodes_of}
use Rattle.fc_volume.proofs.NumbersLemmas.{none_remade, one_remade, owner_is, owner_known}
use Rattle.fc_volume.proofs.old.compacting.nodes.remake.Goals as goal

pub returns-in-Some-clause-made : goal.returns-in-Some-clause-made
returns-in-Some-clause-made c = λ disc is.
    one_remade disc (nodes_of c.args.tree.now) c.args.owners.now c.change.new.self c.args.k c.owner_at-owner.result c.in-Some.node.now c.list.ensures.nodes c.owner_at-owner.ensures
    (sym c.in-Some.ensures) (c.change.ensures ∙ ap (λ (o : Owner). with_changed o c.args.owners.now) c.entry_owner.ensures ∙ owner_is disc (layout_of c.args.space.now) c.owner_at-owner.result.node c.in-Some.node.now c.args.owners.now is)

pub returns-in_default-clause-made : goal.returns-in_default-clause-made
returns-in_default-clause-made c = λ disc is. none_remade disc (nodes_of c.args.tree.now) c.args.owners.now c.args.k c.owner_at-owner.result c.owner_at-owner.ensures (sym c.in_default.ensures)

pub change-requires : goal.change-requires
change-requires c = owner_known c.args.owners.now c.args.k c.owner_at-owner.result c.entry_owner.result.node c.owner_at-owner.ensures (ap (λ (o : Owner). o.node) c.entry_owner.ensures)
