use Rattle.std.proofs.Common.{Option, Some, ◌∷◌, ◌++◌, refl, sym, subst}
use Rattle.fc_tree.specs.Nodes.{nodes_of}
use Rattle.fc_change.specs.declared.change.Regrowth.{Regrowth}
use Rattle.fc_change.specs.Directories.{CanTellAround, HasToldMore, around, children_of, holders_of, nodes_told}
use Rattle.fc_change.proofs.ToldLemmas.{can_first, can_second, told_more}
use Rattle.fc_change.proofs.around.tell_around.Goals as goal

pub tell_above-requires-clause-can : goal.tell_above-requires-clause-can
tell_above-requires-clause-can c =
    let nodes = nodes_of c.args.tree.now in
    let told = c.args.first ∷ nodes_told c.args.last.now in
    let g = c.in-Some.grown in
    can_first (Some g) nodes told (holders_of nodes g) (children_of nodes g) (subst (λ (o : Option Regrowth). CanTellAround nodes o told) c.in-Some.is c.requires.can)

pub tell_children-requires-clause-can : goal.tell_children-requires-clause-can
tell_children-requires-clause-can c =
    let nodes = nodes_of c.args.tree.now in
    let told = c.args.first ∷ nodes_told c.args.last.now in
    let g = c.in-Some.grown in
    can_second (Some g) nodes told (holders_of nodes g) (children_of nodes g) (subst (λ (o : Option Regrowth). CanTellAround nodes o told) c.in-Some.is c.requires.can)

pub returns : goal.returns
returns c =
    let nodes = nodes_of c.args.tree.now in
    let told = c.args.first ∷ nodes_told c.args.last.now in
    let g = c.in-Some.grown in
    subst (λ (o : Option Regrowth). HasToldMore nodes o (around o nodes told) c.args.says.now.items c.tell_children.new.says.items) (sym c.in-Some.is)
    (told_more (Some g) nodes told (holders_of nodes g) (children_of nodes g) (holders_of nodes g ++ children_of nodes g) c.args.says.now.items c.tell_above.new.says.items c.tell_children.new.says.items
    c.in_ok-tell_above.ensures c.in_ok-tell_children.ensures refl)
