use Rattle.fc_device.proofs.DiskLaws.{laws}
use Rattle.fc_device.proofs.StopLemmas.{keeps_same}
use Rattle.std.proofs.Common.{◌∙◌}
use Rattle.fc_format.proofs.DiscLemmas.{fresh_is}
use Rattle.fc_format.proofs.volume.write_volume.Goals as goal

pub returns-clause-fresh : goal.returns-clause-fresh
returns-clause-fresh g c = c.sync.ensures.bytes ∙ fresh_is g.D.Disk c.args.disk.now c.write_disc.new.disk c.args.f c.in_ok-write_disc.ensures.front

pub returns-clause-keeps : goal.returns-clause-keeps
returns-clause-keeps g c = λ start n le was. keeps_same (laws g.met.D.Disk) (c.write_disc.ensures.keeps start n le was) c.sync.ensures.stops c.sync.ensures.bytes

pub returns-in_err-sync-clause-keeps : goal.returns-in_err-sync-clause-keeps
returns-in_err-sync-clause-keeps g c = λ start n le was. keeps_same (laws g.met.D.Disk) (c.write_disc.ensures.keeps start n le was) c.sync.ensures.stops c.sync.ensures.bytes
