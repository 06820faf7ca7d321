use Rattle.std.proofs.Common.{rules, Err, refl, subst}
use Rattle.fc_device.proofs.DiskLaws.{laws}
use Rattle.fc_device.proofs.StopLemmas.{reads_start}
use Rattle.fc_image.specs.effects.Effect.{State}
use Rattle.fc_names.specs.declared.refusal.Refusal.TheVariants as refusals
use Rattle.fc_script.specs.declared.command.Command.{Command as Told}
use Rattle.fc_script.specs.declared.command.LineError.{LineError}
use Rattle.fc_script.specs.Lines.{command_of}
use Rattle.fc_script.specs.Reading.{Gives, command}
use Rattle.fc_script.specs.Texts.{refusal_line}
use Rattle.fc_shell.specs.declared.answer.LineFault.{LineFault}
use Rattle.fc_shell.proofs.AnsweredLemmas.{caused_alone}
use Rattle.fc_shell.proofs.StepLemmas.{reading_keeps, refusal_ends, unbegun_ends}
use Rattle.fc_shell.proofs.SuitsLemmas.{suits_same}
use Rattle.fc_shell.proofs.answer.answer_line.Goals as goal

pub answer_command-requires-clause-spelled : goal.answer_command-requires-clause-spelled
answer_command-requires-clause-spelled g c = (c.args.line.now, c.in-Ok.ensures, c.requires.short)

pub returns-in-Ok-clause-step : goal.returns-in-Ok-clause-step
returns-in-Ok-clause-step g c = c.answer_command.ensures.step c.args.line.now c.in-Ok.ensures

pub returns-in-Ok-clause-keeps : goal.returns-in-Ok-clause-keeps
returns-in-Ok-clause-keeps g c = c.answer_command.ensures.keeps c.args.line.now c.in-Ok.ensures

pub returns-in-Err-BadCommand-clause-step : goal.returns-in-Err-BadCommand-clause-step
returns-in-Err-BadCommand-clause-step g c image told kind view opens parts =
    let s : State = record { image = image; view = view } in
    let is = subst (λ (f : LineError). Gives {X = Told} command (Err f) (command_of c.args.line.now)) c.in-Err-BadCommand.field-0-is c.in-Err-BadCommand.ensures in
    refusal_ends (laws g.met.D.Disk) kind c.args.safe c.args.volume.now s c.args.line.now c.args.disk.now c.args.disk.now (g.K.Sink.taken c.args.out.now) (g.K.Sink.taken c.tell.new.out)
    c.requires.settled told opens refusals.BadCommand c.tell.result is (reads_start (laws g.met.D.Disk) c.args.disk.now) parts c.tell.ensures.only.no_disk
    (c.tell.ensures.answered (refusal_line refusals.BadCommand) c.refusal.ensures)

pub returns-in-Err-BadCommand-clause-keeps : goal.returns-in-Err-BadCommand-clause-keeps
returns-in-Err-BadCommand-clause-keeps g c =
    reading_keeps (laws g.met.D.Disk) g.K.Sink c.args.volume.now c.args.line.now c.args.disk.now c.args.disk.now c.args.out.now c.tell.new.out c.tell.result
    c.requires.settled c.requires.fit c.requires.stands (reads_start (laws g.met.D.Disk) c.args.disk.now)
    (caused_alone g.D.Disk g.K.Sink c.args.disk.now c.args.disk.now c.args.out.now c.tell.new.out c.tell.result c.tell.ensures.only)

pub returns-in-Err-BadName-clause-step : goal.returns-in-Err-BadName-clause-step
returns-in-Err-BadName-clause-step g c image told kind view opens parts =
    let s : State = record { image = image; view = view } in
    let is = subst (λ (f : LineError). Gives {X = Told} command (Err f) (command_of c.args.line.now)) c.in-Err-BadName.field-0-is c.in-Err-BadName.ensures in
    refusal_ends (laws g.met.D.Disk) kind c.args.safe c.args.volume.now s c.args.line.now c.args.disk.now c.args.disk.now (g.K.Sink.taken c.args.out.now) (g.K.Sink.taken c.tell-in-Err-BadName.new.out)
    c.requires.settled told opens refusals.BadName c.tell-in-Err-BadName.result is (reads_start (laws g.met.D.Disk) c.args.disk.now) parts c.tell-in-Err-BadName.ensures.only.no_disk
    (c.tell-in-Err-BadName.ensures.answered (refusal_line refusals.BadName) c.refusal-in-Err-BadName.ensures)

pub returns-in-Err-BadName-clause-keeps : goal.returns-in-Err-BadName-clause-keeps
returns-in-Err-BadName-clause-keeps g c =
    reading_keeps (laws g.met.D.Disk) g.K.Sink c.args.volume.now c.args.line.now c.args.disk.now c.args.disk.now c.args.out.now c.tell-in-Err-BadName.new.out c.tell-in-Err-BadName.result
    c.requires.settled c.requires.fit c.requires.stands (reads_start (laws g.met.D.Disk) c.args.disk.now)
    (caused_alone g.D.Disk g.K.Sink c.args.disk.now c.args.disk.now c.args.out.now c.tell-in-Err-BadName.new.out c.tell-in-Err-BadName.result c.tell-in-Err-BadName.ensures.only)

pub returns-in-Err-NoMemory-clause-step : goal.returns-in-Err-NoMemory-clause-step
returns-in-Err-NoMemory-clause-step g c image told kind view opens parts =
    let s : State = record { image = image; view = view } in
    unbegun_ends (laws g.met.D.Disk) kind c.args.safe c.args.volume.now s c.args.line.now c.args.disk.now c.args.disk.now (g.K.Sink.taken c.args.out.now) (g.K.Sink.taken c.args.out.now)
    c.requires.settled told opens LineFault.NoMemory (reads_start (laws g.met.D.Disk) c.args.disk.now) refl

pub returns-in-Err-NoMemory-clause-keeps : goal.returns-in-Err-NoMemory-clause-keeps
returns-in-Err-NoMemory-clause-keeps g c =
    reading_keeps (laws g.met.D.Disk) g.K.Sink c.args.volume.now c.args.line.now c.args.disk.now c.args.disk.now c.args.out.now c.args.out.now (Err LineFault.NoMemory)
    c.requires.settled c.requires.fit c.requires.stands (reads_start (laws g.met.D.Disk) c.args.disk.now) (search rules)

pub returns-in-Err-BadCommand-clause-suits : goal.returns-in-Err-BadCommand-clause-suits
returns-in-Err-BadCommand-clause-suits g c = suits_same c.tell.result c.args.safe c.args.volume.now c.requires.suits

pub returns-in-Err-BadName-clause-suits : goal.returns-in-Err-BadName-clause-suits
returns-in-Err-BadName-clause-suits g c = suits_same c.tell-in-Err-BadName.result c.args.safe c.args.volume.now c.requires.suits
