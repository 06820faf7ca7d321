use Rattle.std.proofs.Common.{rules, ◌≡◌, ◌∙◌, sym, refl, Some, None}
use Rattle.std.specs.Prelude.{Ok, Err}
use Rattle.fc_names.specs.declared.refusal.Refusal.TheVariants as refusals
use Rattle.fc_model.specs.Answer.{has_entries, is_locked_at, is_root}
use Rattle.fc_image.specs.Objects.{tree_of}
use Rattle.fc_tree.specs.Nodes.{nodes_of}
use Rattle.fc_refusals.specs.Targets.{refusal_of}
use Rattle.fc_refusals.proofs.FoundLemmas.{leads_to, path_is}
use Rattle.fc_refusals.proofs.NodeLemmas.{entries_is, locked_is}
use Rattle.fc_refusals.proofs.DeleteLemmas.{delete_refusal, removable_given}
use Rattle.fc_refusals.proofs.TargetLemmas.{leads_on, target_accepted}
use Rattle.fc_refusals.proofs.delete.judge_delete.Goals as goal

pub returns-in_err-n-clause-refusal : goal.returns-in_err-n-clause-refusal
returns-in_err-n-clause-refusal c = λ image layout listings form sound held.
    let t = tree_of image layout listings in
    let path = c.args.path.now in
    let is : refusal_of c.from_residual.result ≡ Some c.in_err-n.field-0.0 = search rules in
    is
    ∙ delete_refusal t form c.args.read_only path (Some c.in_err-n.field-0.0) (is_root path) (is_locked_at t path) (has_entries t path) c.args.read_only
    (path_is image layout listings (nodes_of c.args.tree.now) path (Err c.in_err-n.field-0.0) sound held c.in_err-n.ensures) refl refl refl refl

pub returns-then-is_root-clause-refusal : goal.returns-then-is_root-clause-refusal
returns-then-is_root-clause-refusal c = λ image layout listings form sound held.
    let t = tree_of image layout listings in
    let path = c.args.path.now in
    delete_refusal t form c.args.read_only path None _ (is_locked_at t path) (has_entries t path) c.args.read_only
    (path_is image layout listings (nodes_of c.args.tree.now) path (Ok c.in_ok-n.n) sound held c.in_ok-n.ensures) c.if-is_root.ensures refl refl refl

pub returns-then-is_locked-clause-refusal : goal.returns-then-is_locked-clause-refusal
returns-then-is_locked-clause-refusal c = λ image layout listings form sound held.
    let t = tree_of image layout listings in
    let path = c.args.path.now in
    let nodes = nodes_of c.args.tree.now in
    delete_refusal t form c.args.read_only path None _ _ (has_entries t path) c.args.read_only
    (path_is image layout listings nodes path (Ok c.in_ok-n.n) sound held c.in_ok-n.ensures) c.if-is_root.ensures
    (c.if-is_locked.ensures ∙ locked_is layout listings nodes sound held path c.in_ok-n.n (leads_to layout listings nodes path c.in_ok-n.n sound held c.in_ok-n.ensures) image) refl refl

pub returns-then-has_entries-clause-refusal : goal.returns-then-has_entries-clause-refusal
returns-then-has_entries-clause-refusal c = λ image layout listings form sound held.
    let t = tree_of image layout listings in
    let path = c.args.path.now in
    let nodes = nodes_of c.args.tree.now in
    delete_refusal t form c.args.read_only path None _ _ _ c.args.read_only
    (path_is image layout listings nodes path (Ok c.in_ok-n.n) sound held c.in_ok-n.ensures) c.if-is_root.ensures
    (c.if-is_locked.ensures ∙ locked_is layout listings nodes sound held path c.in_ok-n.n (leads_to layout listings nodes path c.in_ok-n.n sound held c.in_ok-n.ensures) image)
    (c.if-has_entries.ensures ∙ entries_is layout listings nodes sound held path c.in_ok-n.n (leads_to layout listings nodes path c.in_ok-n.n sound held c.in_ok-n.ensures) image) refl

pub returns-then-read_only-clause-refusal : goal.returns-then-read_only-clause-refusal
returns-then-read_only-clause-refusal c = λ image layout listings form sound held.
    let t = tree_of image layout listings in
    let path = c.args.path.now in
    let nodes = nodes_of c.args.tree.now in
    delete_refusal t form c.args.read_only path None _ _ _ _
    (path_is image layout listings nodes path (Ok c.in_ok-n.n) sound held c.in_ok-n.ensures) c.if-is_root.ensures
    (c.if-is_locked.ensures ∙ locked_is layout listings nodes sound held path c.in_ok-n.n (leads_to layout listings nodes path c.in_ok-n.n sound held c.in_ok-n.ensures) image)
    (c.if-has_entries.ensures ∙ entries_is layout listings nodes sound held path c.in_ok-n.n (leads_to layout listings nodes path c.in_ok-n.n sound held c.in_ok-n.ensures) image) (sym c.if-read_only.true)

pub returns-clause-refusal : goal.returns-clause-refusal
returns-clause-refusal c = λ image layout listings form sound held.
    let t = tree_of image layout listings in
    let path = c.args.path.now in
    let nodes = nodes_of c.args.tree.now in
    target_accepted layout listings nodes path c.in_ok-n.n refusals.NotFound c.target_in.result c.ok_or.result
    sound held (leads_to layout listings nodes path c.in_ok-n.n sound held c.in_ok-n.ensures) c.if-is_root.ensures c.target_in.ensures c.ok_or.ensures.value
    ∙ delete_refusal t form c.args.read_only path None _ _ _ _
    (path_is image layout listings nodes path (Ok c.in_ok-n.n) sound held c.in_ok-n.ensures) c.if-is_root.ensures
    (c.if-is_locked.ensures ∙ locked_is layout listings nodes sound held path c.in_ok-n.n (leads_to layout listings nodes path c.in_ok-n.n sound held c.in_ok-n.ensures) image)
    (c.if-has_entries.ensures ∙ entries_is layout listings nodes sound held path c.in_ok-n.n (leads_to layout listings nodes path c.in_ok-n.n sound held c.in_ok-n.ensures) image) (sym c.if-read_only.false)

pub returns-clause-target : goal.returns-clause-target
returns-clause-target c =
    removable_given (nodes_of c.args.tree.now) c.args.path.now c.in_ok-n.n refusals.NotFound c.target_in.result c.ok_or.result
    (leads_on (nodes_of c.args.tree.now) c.args.path.now c.in_ok-n.n c.in_ok-n.ensures) c.if-is_root.ensures c.if-has_entries.ensures c.target_in.ensures c.ok_or.ensures.value
