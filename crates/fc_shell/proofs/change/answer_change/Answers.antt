use Rattle.std.proofs.Common.{◌≡◌, Bool, true, false, IfOk, Result, Ok, Err, sym, subst, ◌∙◌}
use Rattle.fc_device.proofs.DiskLaws.{laws}
use Rattle.fc_image.specs.effects.Effect.{State}
use Rattle.fc_script.specs.Reading.{command}
use Rattle.fc_shell.specs.declared.answer.LineFault.{LineFault}
use Rattle.fc_shell.specs.Line.{LineEnds}
use Rattle.fc_shell.specs.Modes.{SuitsMode, mode_of}
use Rattle.fc_shell.proofs.ChangeLemmas.{change_ends, change_keeps}
use Rattle.fc_shell.proofs.SuitsLemmas.{no_mode, suits_if}
use Rattle.fc_shell.proofs.change.answer_change.Goals as goal

pub answer_safely-requires-clause-suits : goal.answer_safely-requires-clause-suits
answer_safely-requires-clause-suits g c = c.requires.suits c.if-safe.true

pub returns-then-safe-clause-step : goal.returns-then-safe-clause-step
returns-then-safe-clause-step g c line is image told kind view opens parts =
    let s : State = record { image = image; view = view } in
    subst (λ (b : Bool). LineEnds g.D.Disk c.args.disk.now c.answer_safely.new.disk (mode_of kind c.args.volume.now.read_only b) s c.answer_safely.new.volume line (g.K.Sink.taken c.args.out.now) (g.K.Sink.taken c.answer_safely.new.out) c.answer_safely.result)
    (sym c.if-safe.true) (c.answer_safely.ensures.step line is image told kind view opens parts)

pub returns-then-safe-clause-suits : goal.returns-then-safe-clause-suits
returns-then-safe-clause-suits g c = suits_if c.answer_safely.result c.args.safe c.answer_safely.new.volume c.answer_safely.ensures.suits

pub returns-clause-step : goal.returns-clause-step
returns-clause-step g c line is image told kind view opens parts =
    let s : State = record { image = image; view = view } in
    subst (λ (b : Bool). LineEnds g.D.Disk c.args.disk.now c.change-changed.new.disk (mode_of kind c.args.volume.now.read_only b) s c.change-changed.new.volume line (g.K.Sink.taken c.args.out.now) (g.K.Sink.taken c.tell_change.new.out) c.tell_change.result)
    (sym c.if-safe.false)
    (change_ends (laws g.met.D.Disk) g.K.Sink kind s line (command c.args.asked.now) c.args.volume.now c.change-changed.new.volume c.args.disk.now c.change-changed.new.disk c.args.out.now c.tell_change.new.out
    c.requires.changes is c.requires.settled told opens parts c.requires.stands.agree c.has_map.ensures c.change-changed.result c.tell_change.result c.change-changed.ensures c.tell_change.ensures)

pub returns-clause-keeps : goal.returns-clause-keeps
returns-clause-keeps g c line is =
    change_keeps (laws g.met.D.Disk) g.K.Sink line (command c.args.asked.now) c.args.volume.now c.change-changed.new.volume c.args.disk.now c.change-changed.new.disk c.args.out.now c.tell_change.new.out
    c.requires.changes is c.requires.stands c.change-changed.result c.tell_change.result c.change-changed.ensures c.tell_change.ensures

pub returns-clause-suits : goal.returns-clause-suits
returns-clause-suits g c = no_mode c.tell_change.result c.args.safe c.change-changed.new.volume c.if-safe.false
