use Rattle.std.proofs.Common.{List, Some, ℕ, ◌∷◌, sym, ap, subst, ◌∙◌}
use Rattle.std.specs.Option.{option_map}
use Rattle.fc_tree.specs.Nodes.{nodes_of}
use Rattle.fc_change.specs.Directories.{CanTellThese, HasToldMore, nodes_told, told_around}
use Rattle.fc_change.proofs.ToldLemmas.{holders_are, no_holders, none_told}
use Rattle.fc_change.proofs.around.tell_above.Goals as goal

pub tell_one-requires : goal.tell_one-requires
tell_one-requires c =
    let nodes = nodes_of c.args.tree.now in
    let own = sym c.node.ensures ∙ ap (option_map (λ x. x.now)) c.unwrap-node.ensures in
    subst (λ (ns : List ℕ). CanTellThese nodes (Some c.args.grown) (told_around (c.args.first ∷ nodes_told c.args.last.now) ns))
    (holders_are nodes c.args.grown c.unwrap-node.result.now own c.if-grown-eq0.false) c.requires.can

pub returns : goal.returns
returns c =
    let nodes = nodes_of c.args.tree.now in
    let own = sym c.node.ensures ∙ ap (option_map (λ x. x.now)) c.unwrap-node.ensures in
    subst (λ (ns : List ℕ). HasToldMore nodes (Some c.args.grown) (told_around (c.args.first ∷ nodes_told c.args.last.now) ns) c.args.says.now.items c.tell_one.new.says.items)
    (sym (holders_are nodes c.args.grown c.unwrap-node.result.now own c.if-grown-eq0.false)) c.in_ok-tell_one.ensures

pub returns-then-grown-eq0 : goal.returns-then-grown-eq0
returns-then-grown-eq0 c =
    none_told (Some c.args.grown) (nodes_of c.args.tree.now) (c.args.first ∷ nodes_told c.args.last.now) _ c.args.says.now.items (no_holders (nodes_of c.args.tree.now) c.args.grown c.if-grown-eq0.true)
