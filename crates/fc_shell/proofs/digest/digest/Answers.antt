use Rattle.std.proofs.Common.{refl, sym, ap, subst, ◌∙◌}
use Rattle.fc_device.specs.Calls.{OnlyReads}
use Rattle.fc_device.proofs.DiskLaws.{laws}
use Rattle.fc_device.proofs.StopLemmas.{reads_start}
use Rattle.fc_image.specs.effects.Effect.{State, tree_in}
use Rattle.fc_image.specs.Layout.{dir_form}
use Rattle.fc_model.specs.Answer.{answer}
use Rattle.fc_model.specs.Command.{Command}
use Rattle.fc_script.specs.Texts.{digest_reply, refusal_line}
use Rattle.fc_volume.specs.Answers.{IsRefusalOf, ref_bytes}
use Rattle.fc_volume.specs.Volume.{StandsFor}
use Rattle.fc_shell.specs.Answered.{IsCaused, volume_reply}
use Rattle.fc_shell.proofs.AnsweredLemmas.{answered_same, caused_alone}
use Rattle.fc_shell.proofs.ReplyLemmas.{accepted, refused, same_answer}
use Rattle.fc_shell.proofs.WritingLemmas.{wrote_nothing}
use Rattle.fc_shell.proofs.digest.digest.Goals as goal

pub tell_file-requires-clause-attached : goal.tell_file-requires-clause-attached
tell_file-requires-clause-attached g c = ap g.D.Disk.attached c.in-Ok.ensures.disk ∙ c.requires.attached

pub tell_file-requires-clause-stands : goal.tell_file-requires-clause-stands
tell_file-requires-clause-stands g c = subst (λ d. StandsFor g.D.Disk c.args.volume.now d) (sym c.in-Ok.ensures.disk) c.requires.stands

pub returns-in-Ok-clause-answered : goal.returns-in-Ok-clause-answered
returns-in-Ok-clause-answered g c = λ image told kind view opens parts.
    let v = c.args.volume.now in
    let path = c.args.path.now in
    let s : State = record { image = image; view = view } in
    let h = c.in-Ok.ensures.answer image kind view opens parts in
    answered_same (digest_reply (ref_bytes image v c.in-Ok.file)) (volume_reply kind v s (Command.Digest path)) (g.K.Sink.taken c.args.out.now) (g.K.Sink.taken c.tell_file.new.out) c.tell_file.result
    (accepted kind v image view (Command.Digest path) (tree_in s) opens refl (same_answer (tree_in s) (dir_form view.layout) v.read_only path ∙ h.0) ∙ ap digest_reply h.1)
    (c.tell_file.ensures.answered image (ap g.D.Disk.bytes c.in-Ok.ensures.disk ∙ told))

pub returns-in-Ok-clause-reads : goal.returns-in-Ok-clause-reads
returns-in-Ok-clause-reads g c = subst (λ d. OnlyReads g.D.Disk d c.tell_file.new.disk) c.in-Ok.ensures.disk c.tell_file.ensures.reads

pub returns-in-Ok-clause-caused : goal.returns-in-Ok-clause-caused
returns-in-Ok-clause-caused g c = subst (λ d. IsCaused g.D.Disk g.K.Sink d c.tell_file.new.disk c.args.out.now c.tell_file.new.out c.tell_file.result) c.in-Ok.ensures.disk c.tell_file.ensures.caused

pub returns-in-Err-Refused-clause-answered : goal.returns-in-Err-Refused-clause-answered
returns-in-Err-Refused-clause-answered g c = λ image told kind view opens parts.
    let v = c.args.volume.now in
    let path = c.args.path.now in
    let s : State = record { image = image; view = view } in
    let h = subst (IsRefusalOf (answer (tree_in s) (dir_form view.layout) v.read_only (Command.Load path))) c.in-Err-Refused.field-0-is
    (c.in-Err-Refused.ensures.answer image kind view opens parts) in
    answered_same (refusal_line c.in-Err-Refused.reason) (volume_reply kind v s (Command.Digest path)) (g.K.Sink.taken c.args.out.now) (g.K.Sink.taken c.tell.new.out) c.tell.result
    (refused kind v image view (Command.Digest path) c.in-Err-Refused.reason (same_answer (tree_in s) (dir_form view.layout) v.read_only path ∙ h))
    (c.tell.ensures.answered (refusal_line c.in-Err-Refused.reason) c.refusal.ensures)

pub returns-in-Err-Refused-clause-reads : goal.returns-in-Err-Refused-clause-reads
returns-in-Err-Refused-clause-reads g c = subst (λ d. OnlyReads g.D.Disk c.args.disk.now d) (sym c.in-Err-Refused.ensures.disk) (reads_start (laws g.met.D.Disk) c.args.disk.now)

pub returns-in-Err-Refused-clause-caused : goal.returns-in-Err-Refused-clause-caused
returns-in-Err-Refused-clause-caused g c = caused_alone g.D.Disk g.K.Sink c.args.disk.now c.load.new.disk c.args.out.now c.tell.new.out c.tell.result c.tell.ensures.only

pub returns-in-Err-NoMemory-clause-answered : goal.returns-in-Err-NoMemory-clause-answered
returns-in-Err-NoMemory-clause-answered g c = λ image told kind view opens parts. (0, wrote_nothing (g.K.Sink.taken c.args.out.now))

pub returns-in-Err-NoMemory-clause-reads : goal.returns-in-Err-NoMemory-clause-reads
returns-in-Err-NoMemory-clause-reads g c = subst (λ d. OnlyReads g.D.Disk c.args.disk.now d) (sym c.in-Err-NoMemory.ensures.disk) (reads_start (laws g.met.D.Disk) c.args.disk.now)
