use Rattle.std.proofs.Common.{ℕ, Option, sym, subst}
use Rattle.std.specs.Prelude.{IfSome, IsSome}
use Rattle.std.specs.FinMap.{get}
use Rattle.fc_space.specs.Space.{layout_of}
use Rattle.fc_tree.specs.Nodes.{next_number, nodes_of}
use Rattle.fc_change.proofs.TurningLemmas.{can_turn, can_turn_owner, gone_there, regrown_stays, turned_stays}
use Rattle.fc_change.proofs.takeover.take_over.Goals as goal

pub turn_owner-requires : goal.turn_owner-requires
turn_owner-requires c =
    can_turn_owner c.args.change.object c.args.change.grown (layout_of c.args.places.now) (nodes_of c.args.tree.now) c.args.owners.now c.regrow.new.owners c.requires.grown c.regrow.ensures.owners c.requires.owner

pub turn-requires : goal.turn-requires
turn-requires c =
    can_turn c.args.change.object c.args.change.grown (nodes_of c.args.tree.now) (nodes_of c.regrow.new.tree) c.args.tree.now.room c.regrow.new.tree.room c.regrow.ensures.nodes c.regrow.ensures.room c.requires.object

pub set_bodies-requires : goal.set_bodies-requires
set_bodies-requires c = λ s at.
    turned_stays c.args.change.object (next_number c.regrow.new.tree) (nodes_of c.regrow.new.tree) (nodes_of c.turn.new.tree) s.node c.turn.ensures
    (regrown_stays c.args.change.grown (nodes_of c.args.tree.now) (nodes_of c.regrow.new.tree) s.node c.regrow.ensures.nodes (c.requires.says s at))

pub take_gone-requires : goal.take_gone-requires
take_gone-requires c =
    subst (λ (gone : Option ℕ). IfSome gone (λ (n : ℕ). IsSome (get (nodes_of c.set_bodies.new.tree) n))) (sym c.gone_in-gone.ensures)
    (gone_there c.args.change.object c.args.change.grown c.args.change.says.items (next_number c.regrow.new.tree) c.args.tree.now.room (nodes_of c.args.tree.now) (nodes_of c.regrow.new.tree) (nodes_of c.turn.new.tree)
    (nodes_of c.set_bodies.new.tree) c.regrow.ensures.nodes c.turn.ensures c.set_bodies.ensures c.requires.object)
