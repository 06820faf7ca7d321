use Rattle.std.proofs.Common.{Option, sym, subst, ap, ◌∙◌}
use Rattle.std.specs.FinMap.{get}
use Rattle.fc_drafts.specs.Entries.{regrown}
use Rattle.fc_laws.specs.nodes.Edits.{Nodes}
use Rattle.fc_space.specs.Space.{layout_of}
use Rattle.fc_tree.specs.Nodes.{nodes_of}
use Rattle.fc_tree.specs.declared.node.Node.{Node}
use Rattle.fc_change.specs.declared.change.Regrowth.{Regrowth}
use Rattle.fc_change.specs.After.{CanRegrowNode, IsRegrownOwner}
use Rattle.fc_change.proofs.TakingLemmas.{some_stays}
use Rattle.fc_change.proofs.TurningLemmas.{edited_at}
use Rattle.fc_change.proofs.takeover.regrow.Goals as goal

pub renew_owner-requires-clause-node : goal.renew_owner-requires-clause-node
renew_owner-requires-clause-node c =
    let g = c.in-Some.g in
    let can = subst (CanRegrowNode (nodes_of c.args.tree.now) c.args.owners.now) c.in-Some.is c.requires in
    some_stays (nodes_of c.args.tree.now) (nodes_of c.set_place.new.tree) g.node g.node (λ (node : Node). record node { entry = regrown node.entry g.address g.len }) c.set_place.ensures.nodes can.0

pub returns-in-Some-clause-owners : goal.returns-in-Some-clause-owners
returns-in-Some-clause-owners c =
    let g = c.in-Some.g in
    subst (λ (grown : Option Regrowth). IsRegrownOwner (layout_of c.args.places.now) (nodes_of c.args.tree.now) grown c.args.owners.now c.renew_owner.new.owners) (sym c.in-Some.is)
    (λ node there.
    c.renew_owner.ensures (record node { entry = regrown node.entry g.address g.len })
    (ap (λ (nodes : Nodes). get nodes g.node) c.set_place.ensures.nodes
    ∙ edited_at (nodes_of c.args.tree.now) g.node (λ (x : Node). record x { entry = regrown x.entry g.address g.len }) node there))
