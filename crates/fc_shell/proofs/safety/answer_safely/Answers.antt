use Rattle.fc_device.proofs.DiskLaws.{laws}
use Rattle.fc_image.specs.effects.Effect.{State}
use Rattle.fc_script.specs.Reading.{command}
use Rattle.fc_shell.proofs.SafetyLemmas.{safe_ends, safe_keeps, safe_suits}
use Rattle.fc_shell.proofs.safety.answer_safely.Goals as goal

pub returns-clause-step : goal.returns-clause-step
returns-clause-step g c line is image told kind view opens parts =
    let s : State = record { image = image; view = view } in
    safe_ends (laws g.met.D.Disk) g.K.Sink kind s line (command c.args.asked.now) c.args.volume.now c.change_safely-changed.new.volume c.args.disk.now c.change_safely-changed.new.disk c.args.out.now c.tell_safely.new.out
    c.requires.changes is c.requires.fit c.requires.settled told opens parts c.change_safely-changed.result c.tell_safely.result c.change_safely-changed.ensures c.tell_safely.ensures

pub returns-clause-keeps : goal.returns-clause-keeps
returns-clause-keeps g c line is =
    safe_keeps (laws g.met.D.Disk) g.K.Sink (command c.args.asked.now) c.args.volume.now c.change_safely-changed.new.volume c.args.disk.now c.change_safely-changed.new.disk c.args.out.now c.tell_safely.new.out
    c.requires.fit line c.requires.changes is c.requires.stands c.change_safely-changed.result c.tell_safely.result c.change_safely-changed.ensures c.tell_safely.ensures

pub returns-clause-suits : goal.returns-clause-suits
returns-clause-suits g c =
    safe_suits (laws g.met.D.Disk) g.K.Sink (command c.args.asked.now) c.args.volume.now c.change_safely-changed.new.volume c.args.disk.now c.change_safely-changed.new.disk c.args.out.now c.tell_safely.new.out
    c.requires.fit c.change_safely-changed.result c.tell_safely.result c.change_safely-changed.ensures c.tell_safely.ensures
