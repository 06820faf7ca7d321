use Rattle.fc_device.proofs.DiskLaws.{laws}
use Rattle.fc_image.specs.effects.Effect.{State}
use Rattle.fc_shell.proofs.CompactLemmas.{compact_ends, compact_keeps}
use Rattle.fc_shell.specs.Changing.{done_reply}
use Rattle.fc_shell.proofs.SuitsLemmas.{suits_after}
use Rattle.fc_shell.proofs.compact.compact.Goals as goal

pub returns-clause-step : goal.returns-clause-step
returns-clause-step g c line is safe suits image told kind view opens parts =
    let s : State = record { image = image; view = view } in
    compact_ends (laws g.met.D.Disk) g.K.Sink kind safe s line c.args.volume.now c.compact_disc-compacted.new.volume c.args.disk.now c.compact_disc-compacted.new.disk c.args.out.now c.tell_change.new.out
    suits is c.requires.settled told opens parts c.compact_disc-compacted.result c.tell_change.result c.compact_disc-compacted.ensures c.tell_change.ensures

pub returns-clause-keeps : goal.returns-clause-keeps
returns-clause-keeps g c line is =
    compact_keeps (laws g.met.D.Disk) g.K.Sink line c.args.volume.now c.compact_disc-compacted.new.volume c.args.disk.now c.compact_disc-compacted.new.disk c.args.out.now c.tell_change.new.out
    is c.compact_disc-compacted.result c.tell_change.result c.compact_disc-compacted.ensures c.tell_change.ensures

pub returns-clause-suits : goal.returns-clause-suits
returns-clause-suits g c =
    suits_after g.D.Disk g.K.Sink done_reply c.args.volume.now c.compact_disc-compacted.new.volume c.args.disk.now c.compact_disc-compacted.new.disk c.args.out.now c.tell_change.new.out
    c.compact_disc-compacted.result c.tell_change.result c.compact_disc-compacted.ensures.keeps c.compact_disc-compacted.ensures.tree c.tell_change.ensures
