use Rattle.std.proofs.Common.{rules, ◌≡◌, ◌∙◌, sym, refl, Some, None}
use Rattle.fc_tree.specs.Nodes.{nodes_of}
use Rattle.fc_refusals.specs.Places.{is_locked_node}
use Rattle.fc_refusals.specs.Targets.{refusal_of}
use Rattle.fc_refusals.proofs.HolderLemmas.{unnamed}
use Rattle.fc_refusals.proofs.CdirLemmas.{vacant_given}
use Rattle.fc_refusals.proofs.SaveLemmas.{file_is, holder_refused, new_refused, over_refused, root_refused, target_exists}
use Rattle.fc_refusals.proofs.save.judge_save.Goals as goal

pub returns-in_default-clause-refusal : goal.returns-in_default-clause-refusal
returns-in_default-clause-refusal c = λ image layout listings load exec len bytes sound held.
    let e = root_refused image layout listings c.args.form c.args.read_only c.args.path.now load exec bytes sound (unnamed c.args.path.now c.in_default.ensures) in
    (e, e)

pub returns-in_err-dir-clause-refusal : goal.returns-in_err-dir-clause-refusal
returns-in_err-dir-clause-refusal c = λ image layout listings load exec len bytes sound held.
    let is : refusal_of c.from_residual.result ≡ Some c.in_err-dir.field-0.0 = search rules in
    let e = is ∙ holder_refused image layout listings (nodes_of c.args.tree.now) c.args.form c.args.read_only c.args.path.now load exec bytes c.in-Some.name.now
    sound held c.in-Some.ensures c.if-not-writable_bytes.ensures c.in_err-dir.field-0.0 c.in_err-dir.ensures in
    (e, e)

pub returns-then-read_only-clause-refusal : goal.returns-then-read_only-clause-refusal
returns-then-read_only-clause-refusal c = λ image layout listings load exec len bytes sound held.
    let e = new_refused image layout listings (nodes_of c.args.tree.now) c.args.form c.args.read_only c.args.path.now load exec bytes c.in-Some.name.now
    sound held c.in-Some.ensures c.if-not-writable_bytes.ensures c.in_ok-dir.dir c.in_ok-dir.ensures _ c.in_default-child.ensures (sym c.if-read_only.true) in
    (e, e)

pub returns-in_default-child-clause-refusal : goal.returns-in_default-child-clause-refusal
returns-in_default-child-clause-refusal c = λ image layout listings load exec len bytes sound held.
    let e = new_refused image layout listings (nodes_of c.args.tree.now) c.args.form c.args.read_only c.args.path.now load exec bytes c.in-Some.name.now
    sound held c.in-Some.ensures c.if-not-writable_bytes.ensures c.in_ok-dir.dir c.in_ok-dir.ensures _ c.in_default-child.ensures (sym c.if-read_only.false) in
    (e, e)

pub returns-in_default-child-clause-slot : goal.returns-in_default-child-clause-slot
returns-in_default-child-clause-slot c =
    vacant_given (nodes_of c.args.tree.now) c.args.path.now c.in-Some.name.now c.in_ok-dir.dir None c.in-Some.ensures c.in_ok-dir.ensures c.in_default-child.ensures refl

pub returns-then-is_directory-clause-refusal : goal.returns-then-is_directory-clause-refusal
returns-then-is_directory-clause-refusal c = λ image layout listings load exec len bytes sound held.
    let e = over_refused image layout listings (nodes_of c.args.tree.now) c.args.form c.args.read_only c.args.path.now load exec bytes c.in-Some.name.now
    sound held c.in-Some.ensures c.if-not-writable_bytes.ensures c.in_ok-dir.dir c.in_ok-dir.ensures c.in-Some-child.n _ (is_locked_node (nodes_of c.args.tree.now) c.in-Some-child.n) c.args.read_only
    c.in-Some-child.ensures c.if-is_directory.ensures refl refl in
    (e, e)

pub returns-then-is_locked-clause-refusal : goal.returns-then-is_locked-clause-refusal
returns-then-is_locked-clause-refusal c = λ image layout listings load exec len bytes sound held.
    let e = over_refused image layout listings (nodes_of c.args.tree.now) c.args.form c.args.read_only c.args.path.now load exec bytes c.in-Some.name.now
    sound held c.in-Some.ensures c.if-not-writable_bytes.ensures c.in_ok-dir.dir c.in_ok-dir.ensures c.in-Some-child.n _ _ c.args.read_only
    c.in-Some-child.ensures c.if-is_directory.ensures c.if-is_locked.ensures refl in
    (e, e)

pub returns-then-read_only-2-clause-refusal : goal.returns-then-read_only-2-clause-refusal
returns-then-read_only-2-clause-refusal c = λ image layout listings load exec len bytes sound held.
    let e = over_refused image layout listings (nodes_of c.args.tree.now) c.args.form c.args.read_only c.args.path.now load exec bytes c.in-Some.name.now
    sound held c.in-Some.ensures c.if-not-writable_bytes.ensures c.in_ok-dir.dir c.in_ok-dir.ensures c.in-Some-child.n _ _ _
    c.in-Some-child.ensures c.if-is_directory.ensures c.if-is_locked.ensures (sym c.if-read_only-2.true) in
    (e, e)

pub returns-in-Some-target_in-clause-refusal : goal.returns-in-Some-target_in-clause-refusal
returns-in-Some-target_in-clause-refusal c = λ image layout listings load exec len bytes sound held.
    let e = over_refused image layout listings (nodes_of c.args.tree.now) c.args.form c.args.read_only c.args.path.now load exec bytes c.in-Some.name.now
    sound held c.in-Some.ensures c.if-not-writable_bytes.ensures c.in_ok-dir.dir c.in_ok-dir.ensures c.in-Some-child.n _ _ _
    c.in-Some-child.ensures c.if-is_directory.ensures c.if-is_locked.ensures (sym c.if-read_only-2.false) in
    (e, e)

pub returns-in-Some-target_in-clause-slot : goal.returns-in-Some-target_in-clause-slot
returns-in-Some-target_in-clause-slot c = λ layout listings sound held.
    file_is layout listings (nodes_of c.args.tree.now) c.args.path.now c.in-Some.name.now c.in_ok-dir.dir c.in-Some-child.n sound held c.in-Some.ensures c.in_ok-dir.ensures c.in-Some-child.ensures
    c.in-Some-target_in.target c.in-Some-target_in.ensures c.if-is_directory.ensures

pub returns-in-None-clause-refusal : goal.returns-in-None-clause-refusal
returns-in-None-clause-refusal c = λ image layout listings load exec len bytes sound held.
    absurd (target_exists layout listings (nodes_of c.args.tree.now) c.args.path.now c.in-Some.name.now c.in_ok-dir.dir c.in-Some-child.n sound held c.in-Some.ensures c.in_ok-dir.ensures c.in-Some-child.ensures
    c.in-None.ensures)
