use Rattle.std.proofs.Common.{IfOk, refl, sym, subst, ◌∙◌}
use Rattle.fc_image.specs.effects.Effect.{State, tree_in}
use Rattle.fc_image.specs.Layout.{dir_form}
use Rattle.fc_model.specs.Answer.{answer}
use Rattle.fc_model.specs.Command.{Command}
use Rattle.fc_volume.specs.Answers.{IsRefusalOf}
use Rattle.fc_shell.specs.Answered.{IsReply}
use Rattle.fc_shell.proofs.ReplyLemmas.{accepted, cat_told, refused}
use Rattle.fc_shell.proofs.cat.cat.Goals as goal

pub returns-in-Ok-clause-reply : goal.returns-in-Ok-clause-reply
returns-in-Ok-clause-reply g c image told kind view opens parts =
    let v = c.args.volume.now in
    let path = c.args.path.now in
    let s : State = record { image = image; view = view } in
    let h = c.in-Ok.ensures.answer image kind view opens parts in
    subst (λ text. IfOk c.listing.result (λ reply. IsReply reply text)) (sym (accepted kind v image view (Command.Cat path) (tree_in s) opens refl h.0 ∙ sym (cat_told (tree_in s) path c.in-Ok.lines.items h.1)))
    c.listing.ensures

pub returns-in-Err-Refused-clause-reply : goal.returns-in-Err-Refused-clause-reply
returns-in-Err-Refused-clause-reply g c image told kind view opens parts =
    let v = c.args.volume.now in
    let path = c.args.path.now in
    let s : State = record { image = image; view = view } in
    let h = subst (IsRefusalOf (answer (tree_in s) (dir_form view.layout) v.read_only (Command.Cat path))) c.in-Err-Refused.field-0-is
    (c.in-Err-Refused.ensures.answer image kind view opens parts) in
    subst (λ text. IfOk c.refusal.result (λ reply. IsReply reply text)) (sym (refused kind v image view (Command.Cat path) c.in-Err-Refused.reason h))
    c.refusal.ensures
