use Rattle.std.proofs.Common.{sym, subst, refl, arith}
use Rattle.std.proofs.lemmas.Result.{err_from_is_err_and}
use Rattle.fc_image.specs.Walk.{reader_of}
use Rattle.fc_space.specs.Space.{layout_of}
use Rattle.fc_tree.specs.Walking.{HoldsObject}
use Rattle.fc_tree.proofs.DirectoryLemmas.{at_there, children_fail, said_fails, visited}
use Rattle.fc_tree.proofs.directory.visit.Goals as goal

pub returns-in_err-body-clause-err : goal.returns-in_err-body-clause-err
returns-in_err-body-clause-err g c =
    let p = err_from_is_err_and c.from_residual.result c.from_residual.ensures.1 in
    let layout = layout_of c.args.places.now in
    rw (p.1, p.2) (λ o before stands taken. λ image told.
    said_fails layout before o.path (reader_of image layout o) c.in_err-body.field-0.0
    (c.in_err-body.ensures.err o (subst (λ ns. HoldsObject layout ns c.args.at o) (sym c.deref.ensures.value) stands) image told))

pub returns-in_err-add_children-clause-err : goal.returns-in_err-add_children-clause-err
returns-in_err-add_children-clause-err g c =
    let p = err_from_is_err_and c.from_residual-in_err-add_children.result c.from_residual-in_err-add_children.ensures.1 in
    let layout = layout_of c.args.places.now in
    rw (p.1, p.2) (λ o before stands taken. λ image told.
    (let said = c.in_ok-body.ensures.ok o (subst (λ ns. HoldsObject layout ns c.args.at o) (sym c.deref.ensures.value) stands) in
    children_fail layout before o.path (reader_of image layout o) said.0 c.entries_of.result.now c.in_err-add_children.field-0.0 (said.3 image told) (c.entries_of.ensures said.0 said.1).0
    (c.in_err-add_children.ensures.err o before stands taken)))

pub index_mut-requires : goal.index_mut-requires
index_mut-requires g c =
    let there = at_there (layout_of c.args.places.now) c.args.nodes.now.items c.add_children.new.nodes.items c.args.at c.requires.there.0 c.requires.there.1 c.in_ok-add_children.ensures.more in
    omega (arith, there, c.add_children.new.nodes.ok)

pub returns-in_err-add_children-clause-cause : goal.returns-in_err-add_children-clause-cause
returns-in_err-add_children-clause-cause g c = λ e.
    let p = err_from_is_err_and c.from_residual-in_err-add_children.result c.from_residual-in_err-add_children.ensures.1 in
    absurd (c.in_err-add_children.ensures.no_fault (rw (p.1, p.2) at e))

pub returns-clause-ok : goal.returns-clause-ok
returns-clause-ok g c = λ o before stands taken.
    let layout = layout_of c.args.places.now in
    let said = c.in_ok-body.ensures.ok o (subst (λ ns. HoldsObject layout ns c.args.at o) (sym c.deref.ensures.value) stands) in
    let entries = c.entries_of.ensures said.0 said.1 in
    visited layout (g.D.Disk.bytes c.args.disk.now) c.args.nodes.now.items c.add_children.new.nodes.items _ c.args.at o before c.add_children.new.taken said.0 c.entries_of.result.now c.in_ok-body.body
    c.index_mut.result.now _ stands said.2 entries.1 said.3 said.1 entries.0 (c.in_ok-add_children.ensures.ok o before stands taken) c.index_mut.ensures.value refl
