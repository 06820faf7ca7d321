use Rattle.std.proofs.Common.{rules, ◌≡◌, ◌∙◌, sym, refl, Some}
use Rattle.std.specs.Prelude.{Ok, Err}
use Rattle.fc_names.specs.declared.refusal.Refusal.TheVariants as refusals
use Rattle.fc_model.specs.Answer.{is_root}
use Rattle.fc_tree.specs.Nodes.{nodes_of}
use Rattle.fc_refusals.specs.Targets.{refusal_of}
use Rattle.fc_refusals.proofs.FoundLemmas.{leads_to}
use Rattle.fc_refusals.proofs.SetLemmas.{set_refusal}
use Rattle.fc_refusals.proofs.TargetLemmas.{leads_on, target_accepted, target_given}
use Rattle.fc_refusals.proofs.set.judge_set.Goals as goal

pub returns-in_err-n-clause-refusal : goal.returns-in_err-n-clause-refusal
returns-in_err-n-clause-refusal c = λ image layout listings form load exec access sound held.
    let is : refusal_of c.from_residual.result ≡ Some c.in_err-n.field-0.0 = search rules in
    is
    ∙ set_refusal image layout listings (nodes_of c.args.tree.now) form c.args.read_only c.args.path.now load exec access (Err c.in_err-n.field-0.0) (is_root c.args.path.now) c.args.read_only
    sound held c.in_err-n.ensures refl refl

pub returns-then-is_root-clause-refusal : goal.returns-then-is_root-clause-refusal
returns-then-is_root-clause-refusal c = λ image layout listings form load exec access sound held.
    set_refusal image layout listings (nodes_of c.args.tree.now) form c.args.read_only c.args.path.now load exec access (Ok c.in_ok-n.n) _ c.args.read_only
    sound held c.in_ok-n.ensures c.if-is_root.ensures refl

pub returns-then-read_only-clause-refusal : goal.returns-then-read_only-clause-refusal
returns-then-read_only-clause-refusal c = λ image layout listings form load exec access sound held.
    set_refusal image layout listings (nodes_of c.args.tree.now) form c.args.read_only c.args.path.now load exec access (Ok c.in_ok-n.n) _ _
    sound held c.in_ok-n.ensures c.if-is_root.ensures (sym c.if-read_only.true)

pub returns-clause-refusal : goal.returns-clause-refusal
returns-clause-refusal c = λ image layout listings form load exec access sound held.
    target_accepted layout listings (nodes_of c.args.tree.now) c.args.path.now c.in_ok-n.n refusals.NotFound c.target_in.result c.ok_or.result
    sound held (leads_to layout listings (nodes_of c.args.tree.now) c.args.path.now c.in_ok-n.n sound held c.in_ok-n.ensures) c.if-is_root.ensures c.target_in.ensures c.ok_or.ensures.value
    ∙ set_refusal image layout listings (nodes_of c.args.tree.now) form c.args.read_only c.args.path.now load exec access (Ok c.in_ok-n.n) _ _
    sound held c.in_ok-n.ensures c.if-is_root.ensures (sym c.if-read_only.false)

pub returns-clause-target : goal.returns-clause-target
returns-clause-target c =
    target_given (nodes_of c.args.tree.now) c.args.path.now c.in_ok-n.n refusals.NotFound c.target_in.result c.ok_or.result
    (leads_on (nodes_of c.args.tree.now) c.args.path.now c.in_ok-n.n c.in_ok-n.ensures) c.if-is_root.ensures c.target_in.ensures c.ok_or.ensures.value
