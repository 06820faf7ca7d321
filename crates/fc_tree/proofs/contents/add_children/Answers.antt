use Rattle.std.proofs.Common.{◌∙◌, ◌++◌, ◌∷◌, [], ◌+◌, ap, sym, subst, arith, drop, append-nil, append_assoc, List}
use Rattle.std.proofs.lemmas.Result.{err_from_is_err_and}
use Rattle.std.proofs.lemmas.List.{drop_more}
use Rattle.std.proofs.Math.ListN.{drop_of_length-le}
use Rattle.fc_space.specs.Space.{layout_of}
use Rattle.fc_tree.specs.declared.node.Node.{Node}
use Rattle.fc_tree.specs.Walking.{HoldsObject}
use Rattle.fc_tree.proofs.ChildLemmas.{so_far_all, so_far_fails, so_far_more, so_far_none, so_far_stands, stands_more}
use Rattle.fc_tree.proofs.contents.add_children.Goals as goal

pub loop-entry-init : goal.loop-entry-init
loop-entry-init c =
    let layout = layout_of c.args.places.now in
    record {
      sectors = λ i. c.args.taken.now.sectors;
      done = λ dir before stands taken. so_far_none layout before dir c.args.at c.args.entries.now c.args.nodes.now.items c.args.taken.now taken;
      more = ([], sym (append-nil c.args.nodes.now.items));
      held = c.requires.held;
    }

pub returns-in_err-add_child-clause-err : goal.returns-in_err-add_child-clause-err
returns-in_err-add_child-clause-err c =
    let layout = layout_of c.args.places.now in
    let left = drop c.loop-entry.entry-index c.args.entries.now in
    let p = err_from_is_err_and c.from_residual.result c.from_residual.ensures.1 in
    rw (p.1, p.2) (λ dir before stands taken.
    (let s = c.loop-entry.invariant.done dir before stands taken in
    so_far_fails layout before dir c.args.at c.args.entries.now left (drop (c.loop-entry.entry-index + 1) c.args.entries.now) c.entry-item.result c.args.nodes.now.items c.loop-entry.nodes.items c.loop-entry.taken s
    (drop_more c.args.entries.now c.loop-entry.entry-index _ c.loop-entry-test.true ∙ ap (λ e. e ∷ drop (c.loop-entry.entry-index + 1) c.args.entries.now) (sym c.entry-item.is))
    c.in_err-add_child.field-0.0
    (c.in_err-add_child.ensures.err dir s.after (so_far_stands layout before dir c.args.at c.args.entries.now left c.args.nodes.now.items c.loop-entry.nodes.items c.loop-entry.taken s stands) s.taken)))

pub loop-entry-preserved : goal.loop-entry-preserved
loop-entry-preserved c =
    let layout = layout_of c.args.places.now in
    let left = drop c.loop-entry.entry-index c.args.entries.now in
    let rest = drop (c.loop-entry.entry-index + 1) c.args.entries.now in
    record {
      sectors = c.add_child.ensures.sectors ∙ c.loop-entry.invariant.sectors;
      done = λ dir before stands taken.
          (let s = c.loop-entry.invariant.done dir before stands taken in
          so_far_more layout before dir c.args.at c.args.entries.now left rest c.entry-item.result c.args.nodes.now.items c.loop-entry.nodes.items c.add_child.new.nodes.items c.loop-entry.taken c.add_child.new.taken s
          (drop_more c.args.entries.now c.loop-entry.entry-index _ c.loop-entry-test.true ∙ ap (λ e. e ∷ rest) (sym c.entry-item.is))
          (c.in_ok-add_child.ensures.ok dir s.after (so_far_stands layout before dir c.args.at c.args.entries.now left c.args.nodes.now.items c.loop-entry.nodes.items c.loop-entry.taken s stands) s.taken));
      more = (
        c.loop-entry.invariant.more.0 ++ c.in_ok-add_child.ensures.more.0 ∷ [],
        c.in_ok-add_child.ensures.more.1 ∙ ap (λ (ns : List Node). ns ++ c.in_ok-add_child.ensures.more.0 ∷ []) c.loop-entry.invariant.more.1
            ∙ append_assoc c.args.nodes.now.items c.loop-entry.invariant.more.0 (c.in_ok-add_child.ensures.more.0 ∷ []),
      );
      held = (
        c.loop-entry.invariant.held.0,
        subst (λ (ns : List Node). HoldsObject layout ns c.args.at c.loop-entry.invariant.held.0) (sym c.in_ok-add_child.ensures.more.1)
            (stands_more layout c.loop-entry.nodes.items (c.in_ok-add_child.ensures.more.0 ∷ []) c.args.at c.loop-entry.invariant.held.0 c.loop-entry.invariant.held.1),
      );
    }

pub returns-clause-ok : goal.returns-clause-ok
returns-clause-ok c = λ dir before stands taken.
    so_far_all (layout_of c.args.places.now) before dir c.args.at c.args.entries.now (drop c.loop-entry.entry-index c.args.entries.now) c.args.nodes.now.items c.loop-entry.nodes.items c.loop-entry.taken
    (c.loop-entry.invariant.done dir before stands taken) (drop_of_length-le c.args.entries.now (omega (arith, c.loop-entry-test.false)))
