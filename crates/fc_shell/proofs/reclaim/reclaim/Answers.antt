use Rattle.fc_device.proofs.DiskLaws.{laws}
use Rattle.fc_image.specs.effects.Effect.{State}
use Rattle.fc_shell.proofs.ReclaimLemmas.{reclaim_ends, reclaim_keeps}
use Rattle.fc_shell.specs.Changing.{reclaimed_reply}
use Rattle.fc_shell.proofs.SuitsLemmas.{suits_after}
use Rattle.fc_shell.proofs.reclaim.reclaim.Goals as goal

pub returns-clause-step : goal.returns-clause-step
returns-clause-step g c line is safe suits image told kind view opens parts =
    let s : State = record { image = image; view = view } in
    reclaim_ends (laws g.met.D.Disk) g.K.Sink kind safe s line c.args.volume.now c.reclaim_disc-reclaimed.new.volume c.args.disk.now c.reclaim_disc-reclaimed.new.disk c.args.out.now c.tell_reclaimed.new.out
    suits is c.requires.settled told opens parts c.reclaim_disc-reclaimed.result c.tell_reclaimed.result c.reclaim_disc-reclaimed.ensures c.tell_reclaimed.ensures

pub returns-clause-keeps : goal.returns-clause-keeps
returns-clause-keeps g c line is =
    reclaim_keeps (laws g.met.D.Disk) g.K.Sink line c.args.volume.now c.reclaim_disc-reclaimed.new.volume c.args.disk.now c.reclaim_disc-reclaimed.new.disk c.args.out.now c.tell_reclaimed.new.out
    is c.reclaim_disc-reclaimed.result c.tell_reclaimed.result c.reclaim_disc-reclaimed.ensures c.tell_reclaimed.ensures

pub returns-clause-suits : goal.returns-clause-suits
returns-clause-suits g c =
    suits_after g.D.Disk g.K.Sink reclaimed_reply c.args.volume.now c.reclaim_disc-reclaimed.new.volume c.args.disk.now c.reclaim_disc-reclaimed.new.disk c.args.out.now c.tell_reclaimed.new.out
    c.reclaim_disc-reclaimed.result c.tell_reclaimed.result c.reclaim_disc-reclaimed.ensures.keeps (λ new_map. c.reclaim_disc-reclaimed.ensures.tree) c.tell_reclaimed.ensures
