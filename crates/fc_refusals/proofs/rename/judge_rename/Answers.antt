use Rattle.std.proofs.Common.{rules, ◌≡◌, ◌∙◌, ap, sym, refl, Some}
use Rattle.fc_model.specs.Answer.{is_above, is_root}
use Rattle.fc_tree.specs.Nodes.{nodes_of}
use Rattle.fc_refusals.specs.Places.{is_locked_node, is_other}
use Rattle.fc_refusals.specs.Targets.{refusal_of}
use Rattle.fc_refusals.proofs.HolderLemmas.{unnamed}
use Rattle.fc_refusals.proofs.RenameLemmas.{from_refused, holder_refused, rename_refused, renaming_is, target_exists, to_root_refused}
use Rattle.fc_refusals.proofs.rename.judge_rename.Goals as goal

pub returns-in_default-clause-refusal : goal.returns-in_default-clause-refusal
returns-in_default-clause-refusal c = λ image layout listings sound held.
    to_root_refused image layout listings (nodes_of c.args.tree.now) c.args.form c.args.read_only c.args.from.now c.args.to.now c.refusal_to_root.result sound held
    (unnamed c.args.to.now c.in_default.ensures) c.refusal_to_root.ensures

pub returns-in_err-n-clause-refusal : goal.returns-in_err-n-clause-refusal
returns-in_err-n-clause-refusal c = λ image layout listings sound held.
    let is : refusal_of c.from_residual.result ≡ Some c.in_err-n.field-0.0 = search rules in
    is ∙ from_refused layout listings (nodes_of c.args.tree.now) c.args.from.now c.args.to.now c.in-Some.name.now sound held c.in-Some.ensures
    image c.args.form c.args.read_only c.if-not-writable_bytes.ensures c.in_err-n.field-0.0 c.in_err-n.ensures

pub returns-in_err-dir-clause-refusal : goal.returns-in_err-dir-clause-refusal
returns-in_err-dir-clause-refusal c = λ image layout listings sound held.
    let is : refusal_of c.from_residual-in_err-dir.result ≡ Some c.in_err-dir.field-0.0 = search rules in
    is ∙ holder_refused layout listings (nodes_of c.args.tree.now) c.args.from.now c.args.to.now c.in-Some.name.now sound held c.in-Some.ensures
    image c.args.form c.args.read_only c.if-not-writable_bytes.ensures c.in_ok-n.n c.in_ok-n.ensures c.in_err-dir.field-0.0 c.in_err-dir.ensures

pub returns-then-is_other-clause-refusal : goal.returns-then-is_other-clause-refusal
returns-then-is_other-clause-refusal c = λ image layout listings sound held.
    rename_refused layout listings (nodes_of c.args.tree.now) c.args.from.now c.args.to.now c.in-Some.name.now sound held c.in-Some.ensures
    image c.args.form c.args.read_only c.if-not-writable_bytes.ensures c.in_ok-n.n c.in_ok-n.ensures
    c.in_ok-dir.dir _ (is_root c.args.from.now) (is_above c.args.from.now c.args.to.now) (is_locked_node (nodes_of c.args.tree.now) c.in_ok-n.n) c.args.read_only
    c.in_ok-dir.ensures (c.if-is_other.ensures ∙ ap (λ m. is_other m c.in_ok-n.n) c.child.ensures) refl refl refl refl

pub returns-then-is_root-clause-refusal : goal.returns-then-is_root-clause-refusal
returns-then-is_root-clause-refusal c = λ image layout listings sound held.
    rename_refused layout listings (nodes_of c.args.tree.now) c.args.from.now c.args.to.now c.in-Some.name.now sound held c.in-Some.ensures
    image c.args.form c.args.read_only c.if-not-writable_bytes.ensures c.in_ok-n.n c.in_ok-n.ensures
    c.in_ok-dir.dir _ _ (is_above c.args.from.now c.args.to.now) (is_locked_node (nodes_of c.args.tree.now) c.in_ok-n.n) c.args.read_only
    c.in_ok-dir.ensures (c.if-is_other.ensures ∙ ap (λ m. is_other m c.in_ok-n.n) c.child.ensures) c.if-is_root.ensures refl refl refl

pub returns-then-is_above-clause-refusal : goal.returns-then-is_above-clause-refusal
returns-then-is_above-clause-refusal c = λ image layout listings sound held.
    rename_refused layout listings (nodes_of c.args.tree.now) c.args.from.now c.args.to.now c.in-Some.name.now sound held c.in-Some.ensures
    image c.args.form c.args.read_only c.if-not-writable_bytes.ensures c.in_ok-n.n c.in_ok-n.ensures
    c.in_ok-dir.dir _ _ _ (is_locked_node (nodes_of c.args.tree.now) c.in_ok-n.n) c.args.read_only
    c.in_ok-dir.ensures (c.if-is_other.ensures ∙ ap (λ m. is_other m c.in_ok-n.n) c.child.ensures) c.if-is_root.ensures c.if-is_above.ensures refl refl

pub returns-then-is_locked-clause-refusal : goal.returns-then-is_locked-clause-refusal
returns-then-is_locked-clause-refusal c = λ image layout listings sound held.
    rename_refused layout listings (nodes_of c.args.tree.now) c.args.from.now c.args.to.now c.in-Some.name.now sound held c.in-Some.ensures
    image c.args.form c.args.read_only c.if-not-writable_bytes.ensures c.in_ok-n.n c.in_ok-n.ensures
    c.in_ok-dir.dir _ _ _ _ c.args.read_only
    c.in_ok-dir.ensures (c.if-is_other.ensures ∙ ap (λ m. is_other m c.in_ok-n.n) c.child.ensures) c.if-is_root.ensures c.if-is_above.ensures c.if-is_locked.ensures refl

pub returns-then-read_only-clause-refusal : goal.returns-then-read_only-clause-refusal
returns-then-read_only-clause-refusal c = λ image layout listings sound held.
    rename_refused layout listings (nodes_of c.args.tree.now) c.args.from.now c.args.to.now c.in-Some.name.now sound held c.in-Some.ensures
    image c.args.form c.args.read_only c.if-not-writable_bytes.ensures c.in_ok-n.n c.in_ok-n.ensures
    c.in_ok-dir.dir _ _ _ _ _
    c.in_ok-dir.ensures (c.if-is_other.ensures ∙ ap (λ m. is_other m c.in_ok-n.n) c.child.ensures) c.if-is_root.ensures c.if-is_above.ensures c.if-is_locked.ensures (sym c.if-read_only.true)

pub returns-in-Some-target_in-clause-refusal : goal.returns-in-Some-target_in-clause-refusal
returns-in-Some-target_in-clause-refusal c = λ image layout listings sound held.
    rename_refused layout listings (nodes_of c.args.tree.now) c.args.from.now c.args.to.now c.in-Some.name.now sound held c.in-Some.ensures
    image c.args.form c.args.read_only c.if-not-writable_bytes.ensures c.in_ok-n.n c.in_ok-n.ensures
    c.in_ok-dir.dir _ _ _ _ _
    c.in_ok-dir.ensures (c.if-is_other.ensures ∙ ap (λ m. is_other m c.in_ok-n.n) c.child.ensures) c.if-is_root.ensures c.if-is_above.ensures c.if-is_locked.ensures (sym c.if-read_only.false)

pub returns-in-Some-target_in-clause-renaming : goal.returns-in-Some-target_in-clause-renaming
returns-in-Some-target_in-clause-renaming c = λ layout listings sound held.
    renaming_is layout listings (nodes_of c.args.tree.now) c.args.from.now c.args.to.now c.in-Some.name.now sound held c.in-Some.ensures
    c.in_ok-n.n c.in_ok-dir.dir c.in_ok-n.ensures c.in_ok-dir.ensures c.if-is_root.ensures c.in-Some-target_in.target c.in-Some-target_in.ensures
    (c.if-is_other.ensures ∙ ap (λ m. is_other m c.in_ok-n.n) c.child.ensures) c.if-is_above.ensures

pub returns-in-None-clause-refusal : goal.returns-in-None-clause-refusal
returns-in-None-clause-refusal c = λ image layout listings sound held.
    absurd (target_exists layout listings (nodes_of c.args.tree.now) c.args.from.now c.args.to.now c.in-Some.name.now sound held c.in-Some.ensures
    c.in_ok-n.n c.in_ok-dir.dir c.in_ok-n.ensures c.in_ok-dir.ensures c.if-is_root.ensures c.in-None.ensures)
