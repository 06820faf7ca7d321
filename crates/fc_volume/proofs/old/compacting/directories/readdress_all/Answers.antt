use Rattle.std.proofs.Common.{◌≡◌, ◌<◌, ◌≤◌, ◌∙◌, sym, subst, refl, ℕ, length, arith}
use Rattle.std.specs.Prelude.{vec_len}
use Rattle.std.proofs.lemmas.Option.{slice_get_read}
use Rattle.fc_image.specs.Layout.{dir_form}
use Rattle.fc_oldlaws.specs.moves.After.{start_after}
use Rattle.fc_space.specs.Space.{layout_of}
use Rattle.fc_tree.specs.Nodes.{bound_of, nodes_of}
use Rattle.fc_volume.specs.OldCompacting.{AreReaddressed}
use Rattle.fc_volume.proofs.NumbersLemmas.{left_next, next_copies, readdressed_next}
use Rattle.fc_volume.proofs.old.compacting.directories.readdress_all.Goals as goal

pub readdress_number-requires-clause-copies : goal.readdress_number-requires-clause-copies
readdress_number-requires-clause-copies c =
    let many = c.loop-n.invariant.1.many in
    let first = c.requires.spares.many in
    let low = c.loop-n-test.true in
    let end : c.len-n-end.result ≡ vec_len c.args.spares.now = c.len-n-end.ensures in
    let less : c.loop-n.n < length c.loop-n.spares.items = omega (arith, many, first, low, end) in
    (next_copies (dir_form (layout_of c.args.space.now)) (start_after c.args.moves.now.before.items c.args.moves.now.after.items) (nodes_of c.args.tree.now) (nodes_of c.loop-n.tree) (nodes_of c.loop-n.tree)
    c.loop-n.spares.items c.loop-n.n (bound_of c.args.tree.now) c.loop-n.invariant.0 c.index_mut.result.now c.loop-n.invariant.1
    (slice_get_read c.loop-n.spares.items (length c.loop-n.spares.items) c.loop-n.n c.index_mut.result.now refl less c.index_mut.ensures.value)).0

pub readdress_number-requires-clause-small : goal.readdress_number-requires-clause-small
readdress_number-requires-clause-small c = λ node is.
    c.requires.small c.loop-n.n node (sym (c.loop-n.invariant.0.left c.loop-n.n (let low : c.loop-n.n ≤ c.loop-n.n = omega arith in low)) ∙ is)

pub readdress_number-requires-clause-idle : goal.readdress_number-requires-clause-idle
readdress_number-requires-clause-idle c =
    let many = c.loop-n.invariant.1.many in
    let first = c.requires.spares.many in
    let low = c.loop-n-test.true in
    let end : c.len-n-end.result ≡ vec_len c.args.spares.now = c.len-n-end.ensures in
    let less : c.loop-n.n < length c.loop-n.spares.items = omega (arith, many, first, low, end) in
    (next_copies (dir_form (layout_of c.args.space.now)) (start_after c.args.moves.now.before.items c.args.moves.now.after.items) (nodes_of c.args.tree.now) (nodes_of c.loop-n.tree) (nodes_of c.loop-n.tree)
    c.loop-n.spares.items c.loop-n.n (bound_of c.args.tree.now) c.loop-n.invariant.0 c.index_mut.result.now c.loop-n.invariant.1
    (slice_get_read c.loop-n.spares.items (length c.loop-n.spares.items) c.loop-n.n c.index_mut.result.now refl less c.index_mut.ensures.value)).1

pub loop-n-preserved : goal.loop-n-preserved
loop-n-preserved c =
    let form = dir_form (layout_of c.args.space.now) in
    let move = start_after c.args.moves.now.before.items c.args.moves.now.after.items in
    let nodes = nodes_of c.args.tree.now in
    let now = nodes_of c.loop-n.tree in
    let next = nodes_of c.readdress_number.new.tree in (
      readdressed_next form move nodes now next c.loop-n.spares.items c.loop-n.n (bound_of c.args.tree.now) c.loop-n.invariant.0 c.readdress_number.new.spare c.readdress_number.ensures.nodes c.readdress_number.ensures.changed,
      left_next form move nodes now next c.loop-n.spares.items c.loop-n.n (bound_of c.args.tree.now) c.loop-n.invariant.0 c.readdress_number.new.spare c.loop-n.invariant.1,
      c.readdress_number.ensures.bound ∙ c.loop-n.invariant.2,
    )

pub returns : goal.returns
returns c =
    let low = c.loop-n-test.false in
    let high = c.loop-n.auto.n-end in
    let first = c.requires.spares.many in
    let end : c.len-n-end.result ≡ vec_len c.args.spares.now = c.len-n-end.ensures in
    let all : c.loop-n.n ≡ bound_of c.args.tree.now = omega (arith, low, high, first, end) in
    record {
      nodes = subst (λ (k : ℕ). AreReaddressed (dir_form (layout_of c.args.space.now)) (start_after c.args.moves.now.before.items c.args.moves.now.after.items) (nodes_of c.args.tree.now) (nodes_of c.loop-n.tree) c.loop-n.spares.items k) all c.loop-n.invariant.0;
      long = c.loop-n.invariant.1.many;
      bound = c.loop-n.invariant.2;
    }
