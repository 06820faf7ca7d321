use Rattle.std.proofs.Common.{List, Some, ℕ, ◌∷◌, sym, ap, subst, ◌∙◌}
use Rattle.std.specs.Option.{option_map}
use Rattle.fc_tree.specs.Nodes.{nodes_of}
use Rattle.fc_change.specs.Directories.{CanTellThese, HasToldMore, nodes_told, told_around}
use Rattle.fc_change.proofs.ToldLemmas.{children_are, no_children, none_told}
use Rattle.fc_change.proofs.around.tell_children.Goals as goal

pub tell_entries-requires : goal.tell_entries-requires
tell_entries-requires c =
    let nodes = nodes_of c.args.tree.now in
    let own = sym c.node.ensures ∙ ap (option_map (λ x. x.now)) c.unwrap-node.ensures in
    subst (λ (ns : List ℕ). CanTellThese nodes (Some c.args.grown) (told_around (c.args.first ∷ nodes_told c.args.last.now) ns))
    (children_are nodes c.args.grown c.unwrap-node.result.now c.entries_in.result.now own c.if-node-grown.false c.entries_in.ensures) c.requires.can

pub returns : goal.returns
returns c =
    let nodes = nodes_of c.args.tree.now in
    let own = sym c.node.ensures ∙ ap (option_map (λ x. x.now)) c.unwrap-node.ensures in
    subst (λ (ns : List ℕ). HasToldMore nodes (Some c.args.grown) (told_around (c.args.first ∷ nodes_told c.args.last.now) ns) c.args.says.now.items c.tell_entries.new.says.items)
    (sym (children_are nodes c.args.grown c.unwrap-node.result.now c.entries_in.result.now own c.if-node-grown.false c.entries_in.ensures)) c.in_ok-tell_entries.ensures

pub returns-then-node-grown : goal.returns-then-node-grown
returns-then-node-grown c =
    let nodes = nodes_of c.args.tree.now in
    let own = sym c.node.ensures ∙ ap (option_map (λ x. x.now)) c.unwrap-node.ensures in
    none_told (Some c.args.grown) nodes (c.args.first ∷ nodes_told c.args.last.now) _ c.args.says.now.items (no_children nodes c.args.grown c.unwrap-node.result.now own c.if-node-grown.true)
