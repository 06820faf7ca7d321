use Rattle.std.proofs.Common.{◌++◌, refl, ap, sym, ◌∙◌, arith}
use Rattle.std.proofs.lemmas.Grind.{common_steps}
use Rattle.fc_image.specs.effects.Effect.{State, tree_in}
use Rattle.fc_image.specs.Layout.{dir_form}
use Rattle.fc_image.specs.Report.{free_bytes, largest_hole}
use Rattle.fc_model.specs.Command.{Command}
use Rattle.fc_script.specs.Texts.{free_line, ok_line}
use Rattle.fc_volume.specs.Volume.{parts_of}
use Rattle.fc_shell.specs.Answered.{volume_reply}
use Rattle.fc_shell.proofs.ReplyLemmas.{accepted, free_answer, ok_reply}
use Rattle.fc_shell.proofs.free.free.Goals as goal

pub returns : goal.returns
returns c image kind view opens parts =
    let v = c.args.volume.now in
    let s : State = record { image = image; view = view } in
    let layout = (parts_of v).layout in
    ok_reply _ (free_line (free_bytes layout) (largest_hole layout)) (volume_reply kind v s Command.Free)
    (rw (sym c.free-total.ensures.all, sym c.free-total.ensures.largest) grind (arith, common_steps)) refl
    (accepted kind v image view Command.Free (tree_in s) opens refl (free_answer (tree_in s) (dir_form view.layout) v.read_only)
    ∙ ap (λ layout. free_line (free_bytes layout) (largest_hole layout) ++ ok_line) (sym parts.layout))
