use Rattle.std.proofs.Common.{rules, ◌≡◌, ◌∙◌, sym, refl, Some}
use Rattle.std.specs.Prelude.{Err}
use Rattle.fc_model.specs.Answer.{is_present}
use Rattle.fc_image.specs.Objects.{tree_of}
use Rattle.fc_tree.specs.Nodes.{nodes_of}
use Rattle.fc_refusals.specs.Targets.{refusal_of}
use Rattle.fc_refusals.proofs.HolderLemmas.{holder_is, named, unnamed}
use Rattle.fc_refusals.proofs.CdirLemmas.{cdir_found, cdir_refusal, name_good, root_refused, vacant_given}
use Rattle.fc_refusals.proofs.cdir.judge_cdir.Goals as goal

pub returns-in_default-clause-refusal : goal.returns-in_default-clause-refusal
returns-in_default-clause-refusal c = λ image layout listings sound held.
    root_refused image layout listings c.args.form c.args.read_only c.args.path.now sound (unnamed c.args.path.now c.in_default.ensures)

pub returns-in_err-dir-clause-refusal : goal.returns-in_err-dir-clause-refusal
returns-in_err-dir-clause-refusal c = λ image layout listings sound held.
    let t = tree_of image layout listings in
    let path = c.args.path.now in
    let n = named path c.in-Some.name.now c.in-Some.ensures in
    let is : refusal_of c.from_residual.result ≡ Some c.in_err-dir.field-0.0 = search rules in
    is
    ∙ cdir_refusal t c.args.form c.args.read_only path (Some c.in_err-dir.field-0.0) _ (is_present t path) c.args.read_only
    (name_good c.args.form path c.in-Some.name.now n c.if-not-writable_bytes.ensures)
    (holder_is image layout listings (nodes_of c.args.tree.now) sound held path c.in-Some.name.now (Err c.in_err-dir.field-0.0) n c.in_err-dir.ensures) refl refl

pub returns-then-is_some-clause-refusal : goal.returns-then-is_some-clause-refusal
returns-then-is_some-clause-refusal c = λ image layout listings sound held.
    cdir_found image layout listings (nodes_of c.args.tree.now) c.args.form c.args.read_only c.args.path.now c.in-Some.name.now c.in_ok-dir.dir c.child.result _ c.args.read_only
    sound held c.in-Some.ensures c.if-not-writable_bytes.ensures c.in_ok-dir.ensures c.child.ensures c.if-is_some.ensures refl

pub returns-then-read_only-clause-refusal : goal.returns-then-read_only-clause-refusal
returns-then-read_only-clause-refusal c = λ image layout listings sound held.
    cdir_found image layout listings (nodes_of c.args.tree.now) c.args.form c.args.read_only c.args.path.now c.in-Some.name.now c.in_ok-dir.dir c.child.result _ _
    sound held c.in-Some.ensures c.if-not-writable_bytes.ensures c.in_ok-dir.ensures c.child.ensures c.if-is_some.ensures (sym c.if-read_only.true)

pub returns-clause-refusal : goal.returns-clause-refusal
returns-clause-refusal c = λ image layout listings sound held.
    cdir_found image layout listings (nodes_of c.args.tree.now) c.args.form c.args.read_only c.args.path.now c.in-Some.name.now c.in_ok-dir.dir c.child.result _ _
    sound held c.in-Some.ensures c.if-not-writable_bytes.ensures c.in_ok-dir.ensures c.child.ensures c.if-is_some.ensures (sym c.if-read_only.false)

pub returns-clause-vacant : goal.returns-clause-vacant
returns-clause-vacant c =
    vacant_given (nodes_of c.args.tree.now) c.args.path.now c.in-Some.name.now c.in_ok-dir.dir c.child.result
    c.in-Some.ensures c.in_ok-dir.ensures c.child.ensures c.if-is_some.ensures
