use Rattle.std.proofs.Common.{◌++◌, IfOk, refl, subst, sym, ap, ◌∙◌}
use Rattle.fc_image.specs.effects.Effect.{State, tree_in}
use Rattle.fc_image.specs.Layout.{dir_form}
use Rattle.fc_model.specs.Command.{Command}
use Rattle.fc_runs.specs.Replies.{counts_line}
use Rattle.fc_script.specs.Texts.{ok_line}
use Rattle.fc_shell.specs.Answered.{IsReply}
use Rattle.fc_shell.proofs.ReplyLemmas.{accepted, check_answer}
use Rattle.fc_shell.proofs.check.check.Goals as goal

pub returns : goal.returns
returns c image kind view opens parts =
    let v = c.args.volume.now in
    let s : State = record { image = image; view = view } in
    let told = c.report.ensures image kind view opens (rw (c.tree.ensures, c.space.ensures, c.owners.ensures) parts) in
    subst (λ text. IfOk c.counts_reply.result (λ reply. IsReply reply text))
    (ap (λ n. counts_line n ++ ok_line) told ∙ sym (accepted kind v image view Command.Check (tree_in s) opens refl (check_answer (tree_in s) (dir_form view.layout) v.read_only)))
    c.counts_reply.ensures
