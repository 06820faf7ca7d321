use Rattle.std.proofs.Common.{Option, refl, sym, ap, subst, ◌∙◌}
use Rattle.std.specs.Option.{option_map}
use Rattle.fc_image.specs.Layout.{Layout}
use Rattle.fc_oldmap.specs.OldMap.{OldMapContent}
use Rattle.fc_space.specs.Space.{layout_of}
use Rattle.fc_tree.specs.Nodes.{nodes_of}
use Rattle.fc_change.specs.OldSpace.{CanFreeFrom, IsSameDisc, map_after}
use Rattle.fc_change.proofs.OldGivingLemmas.{free_in, is_there}
use Rattle.fc_change.proofs.placing.old.give_back.Goals as goal

pub unwrap-node-requires : goal.unwrap-node-requires
unwrap-node-requires c =
    let can = c.requires.free c.in-Some.n c.in-Some.is in
    is_there (λ x. x.now) c.node.result can.node (c.node.ensures ∙ can.there)

pub map_without-requires-clause-disc : goal.map_without-requires-clause-disc
map_without-requires-clause-disc c =
    subst (λ (l : Layout). IsSameDisc l c.in-Some-taken.now) (sym (ap layout_of c.space.ensures ∙ c.requires.map)) (c.requires.taken c.in-Some-taken.now c.in-Some-taken.is).1

pub map_without-requires-clause-free : goal.map_without-requires-clause-free
map_without-requires-clause-free c =
    let nodes = nodes_of c.args.held.now.tree.now in
    free_in c.args.map.now c.in-Some-taken.now nodes c.in-Some.n c.unwrap-node.result.now (c.requires.taken c.in-Some-taken.now c.in-Some-taken.is).1
    (subst (λ (o : Option OldMapContent). CanFreeFrom c.args.map.now (map_after c.args.map.now o) nodes c.in-Some.n) c.in-Some-taken.is (c.requires.free c.in-Some.n c.in-Some.is))
    (sym c.node.ensures ∙ ap (option_map (λ x. x.now)) c.unwrap-node.ensures)

pub map_without-requires-in-None-clause-free : goal.map_without-requires-in-None-clause-free
map_without-requires-in-None-clause-free c =
    let nodes = nodes_of c.args.held.now.tree.now in
    free_in c.args.map.now c.args.map.now nodes c.in-Some.n c.unwrap-node.result.now refl
    (subst (λ (o : Option OldMapContent). CanFreeFrom c.args.map.now (map_after c.args.map.now o) nodes c.in-Some.n) c.in-None.is (c.requires.free c.in-Some.n c.in-Some.is))
    (sym c.node.ensures ∙ ap (option_map (λ x. x.now)) c.unwrap-node.ensures)
