use Rattle.std.proofs.Common.{◌+◌, List, ◌++◌, ◌∷◌, [], Some, take, sym, ap, subst, ◌∙◌}
use Rattle.std.specs.Prelude.{Contains}
use Rattle.std.specs.List.{flat_map}
use Rattle.std.proofs.lemmas.List.{append-nil, take_more}
use Rattle.std.proofs.lemmas.List.Concat.{flat_map-append}
use Rattle.std.proofs.lemmas.List.Elements.{Contains-get_or}
use Rattle.fc_dirs.specs.declared.Entry.{Entry}
use Rattle.fc_tree.specs.Nodes.{nodes_of}
use Rattle.fc_change.specs.Directories.{child_of, nodes_told}
use Rattle.fc_change.proofs.ToldLemmas.{can_tell_child, told_more}
use Rattle.fc_change.proofs.around.tell_entries.Goals as goal

pub tell_child-requires : goal.tell_child-requires
tell_child-requires c =
    let nodes = nodes_of c.args.tree.now in
    can_tell_child (Some c.args.grown) nodes (c.args.first ∷ nodes_told c.args.last.now) (child_of nodes c.args.grown.node) c.args.entries.now c.e-item.result
    (subst (Contains c.args.entries.now) (sym c.e-item.is) (Contains-get_or c.args.entries.now c.loop-e.e-index _ c.loop-e-test.true)) c.requires

pub loop-e-preserved : goal.loop-e-preserved
loop-e-preserved c =
    let nodes = nodes_of c.args.tree.now in
    let es = c.args.entries.now in
    let i = c.loop-e.e-index in
    let f = child_of nodes c.args.grown.node in
    let e = c.e-item.result in
    told_more (Some c.args.grown) nodes (c.args.first ∷ nodes_told c.args.last.now) (flat_map f (take i es)) (f e) (flat_map f (take (i + 1) es)) _ c.loop-e.says.items c.tell_child.new.says.items
    c.loop-e.invariant c.in_ok-tell_child.ensures
    (ap (flat_map f) (take_more es i _ c.loop-e-test.true ∙ ap (λ (q : Entry). take i es ++ q ∷ []) (sym c.e-item.is)) ∙ flat_map-append f (take i es) (e ∷ []) ∙ ap (λ (ns : List _). flat_map f (take i es) ++ ns) (append-nil (f e)))
