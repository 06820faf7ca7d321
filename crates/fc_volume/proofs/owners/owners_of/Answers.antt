use Rattle.std.proofs.Common.{◌≡◌, ◌++◌, ap, ◌∙◌, arith}
use Rattle.fc_alloc.specs.declared.owner.Owner.{Owner}
use Rattle.std.specs.Prelude.{List}
use Rattle.std.specs.FinMap.{get}
use Rattle.fc_tree.specs.Nodes.{bound_of, nodes_of}
use Rattle.fc_space.specs.Space.{layout_of}
use Rattle.fc_volume.specs.Owners.{owner_at, owners_below}
use Rattle.fc_volume.proofs.OwnersLemmas.{no_owner, one_more, owners_are}
use Rattle.fc_volume.proofs.owners.owners_of.Goals as goal

pub add_node-requires : goal.add_node-requires
add_node-requires c = no_owner (layout_of c.args.space.now) (nodes_of c.args.tree.now) c.loop-n.owners c.loop-n.n c.loop-n.invariant

pub loop-n-preserved : goal.loop-n-preserved
loop-n-preserved c =
    let layout = layout_of c.args.space.now in
    let nodes = nodes_of c.args.tree.now in
    c.in_ok-add_node.ensures ∙ ap (λ (os : List Owner). os ++ owner_at layout c.loop-n.n (get nodes c.loop-n.n)) c.loop-n.invariant ∙ one_more layout nodes c.loop-n.n

pub returns : goal.returns
returns c = λ reserved address size listings walked order.
    let whole : c.loop-n.n ≡ bound_of c.args.tree.now = omega (arith, c.loop-n-test.false, c.bound-n-end.ensures.bound) in
    let last = c.settle.ensures ∙ c.loop-n.invariant ∙ ap (owners_below (layout_of c.args.space.now) (nodes_of c.args.tree.now)) whole in
    owners_are c.args.tree.now (layout_of c.args.space.now) c.settle.new.self reserved address size listings c.bound-n-end.ensures.above last walked order
