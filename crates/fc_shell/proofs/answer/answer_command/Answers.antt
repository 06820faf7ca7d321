use Rattle.std.proofs.Common.{◌≡◌, true, IfOk, Ok, ap, sym, subst, ◌∙◌}
use Rattle.fc_device.proofs.DiskLaws.{laws}
use Rattle.fc_image.specs.effects.Effect.{State}
use Rattle.fc_runs.specs.ReadLaw.{is_reading}
use Rattle.fc_script.specs.Reading.{command}
use Rattle.fc_volume.specs.Volume.{StandsFor}
use Rattle.fc_shell.specs.Answered.{Answered, ForState, volume_reply}
use Rattle.fc_shell.specs.Line.{KeepsGoing, LineEnds}
use Rattle.fc_shell.specs.Modes.{SuitsMode, mode_of}
use Rattle.fc_shell.proofs.ReplyLemmas.{changing}
use Rattle.fc_shell.proofs.StepLemmas.{reading_ends, reading_keeps}
use Rattle.fc_shell.proofs.SuitsLemmas.{suits_same}
use Rattle.fc_shell.proofs.answer.answer_command.Goals as goal

pub answer_reading-requires-clause-fit : goal.answer_reading-requires-clause-fit
answer_reading-requires-clause-fit g c = ap (λ w. w.fit) c.renew_index.ensures ∙ c.requires.fit

pub answer_reading-requires-clause-stands : goal.answer_reading-requires-clause-stands
answer_reading-requires-clause-stands g c = subst (λ w. StandsFor g.D.Disk w c.args.disk.now) (sym c.renew_index.ensures) c.requires.stands

pub returns-then-is_reading-clause-step : goal.returns-then-is_reading-clause-step
returns-then-is_reading-clause-step g c line is image told kind view opens parts =
    let s : State = record { image = image; view = view } in
    let v = c.args.volume.now in
    let old = c.args.disk.now in
    let new = c.answer_reading.new.disk in
    let before = g.K.Sink.taken c.args.out.now in
    let after = g.K.Sink.taken c.answer_reading.new.out in
    let reads : is_reading (command c.args.asked.now) ≡ true = sym c.is_reading.ensures ∙ c.if-is_reading.true in
    let answered = subst (λ w. ForState (g.D.Disk.bytes old) w (λ kind s. Answered (volume_reply kind w s (command c.args.asked.now)) before after c.answer_reading.result)) c.renew_index.ensures
    c.answer_reading.ensures.answered in
    subst (λ w. LineEnds g.D.Disk old new (mode_of kind v.read_only c.args.safe) s w line before after c.answer_reading.result) (sym c.renew_index.ensures)
    (reading_ends (laws g.met.D.Disk) kind c.args.safe v s line old new before after
    c.requires.settled told opens (command c.args.asked.now) c.answer_reading.result is reads c.answer_reading.ensures.reads parts
    (answered image told kind view opens parts))

pub returns-then-is_reading-clause-keeps : goal.returns-then-is_reading-clause-keeps
returns-then-is_reading-clause-keeps g c line is =
    let v = c.args.volume.now in
    subst (λ w. KeepsGoing g.D.Disk g.K.Sink c.args.disk.now c.answer_reading.new.disk c.args.out.now c.answer_reading.new.out v w line c.answer_reading.result) (sym c.renew_index.ensures)
    (reading_keeps (laws g.met.D.Disk) g.K.Sink v line c.args.disk.now c.answer_reading.new.disk c.args.out.now c.answer_reading.new.out c.answer_reading.result
    c.requires.settled c.requires.fit c.requires.stands c.answer_reading.ensures.reads c.answer_reading.ensures.caused)

pub returns-in-Compact-clause-step : goal.returns-in-Compact-clause-step
returns-in-Compact-clause-step g c line is = c.compact.ensures.step line (is ∙ ap (λ a. Ok (command a)) c.in-Compact.is) c.args.safe c.requires.suits

pub returns-in-Compact-clause-keeps : goal.returns-in-Compact-clause-keeps
returns-in-Compact-clause-keeps g c line is = c.compact.ensures.keeps line (is ∙ ap (λ a. Ok (command a)) c.in-Compact.is)

pub returns-in-Reclaim-clause-step : goal.returns-in-Reclaim-clause-step
returns-in-Reclaim-clause-step g c line is = c.reclaim.ensures.step line (is ∙ ap (λ a. Ok (command a)) c.in-Reclaim.is) c.args.safe c.requires.suits

pub returns-in-Reclaim-clause-keeps : goal.returns-in-Reclaim-clause-keeps
returns-in-Reclaim-clause-keeps g c line is = c.reclaim.ensures.keeps line (is ∙ ap (λ a. Ok (command a)) c.in-Reclaim.is)

pub answer_change-requires-clause-changes : goal.answer_change-requires-clause-changes
answer_change-requires-clause-changes g c =
    changing c.args.asked.now (sym c.is_reading.ensures ∙ c.if-is_reading.false) c.in_default.not-Compact c.in_default.not-Reclaim

pub returns-in_default-clause-step : goal.returns-in_default-clause-step
returns-in_default-clause-step g c = c.answer_change.ensures.step

pub returns-in_default-clause-keeps : goal.returns-in_default-clause-keeps
returns-in_default-clause-keeps g c = c.answer_change.ensures.keeps

pub returns-then-is_reading-clause-suits : goal.returns-then-is_reading-clause-suits
returns-then-is_reading-clause-suits g c =
    subst (λ w. IfOk c.answer_reading.result (λ refused. SuitsMode c.args.safe w)) (sym c.renew_index.ensures) (suits_same c.answer_reading.result c.args.safe c.args.volume.now c.requires.suits)

pub returns-in-Compact-clause-suits : goal.returns-in-Compact-clause-suits
returns-in-Compact-clause-suits g c = c.compact.ensures.suits c.args.safe c.requires.suits

pub returns-in-Reclaim-clause-suits : goal.returns-in-Reclaim-clause-suits
returns-in-Reclaim-clause-suits g c = c.reclaim.ensures.suits c.args.safe c.requires.suits

pub returns-in_default-clause-suits : goal.returns-in_default-clause-suits
returns-in_default-clause-suits g c = c.answer_change.ensures.suits
