use Rattle.fc_device.proofs.DiskLaws.{laws}
use Rattle.fc_model.specs.Command.{Command}
use Rattle.fc_volume.proofs.CommandLemmas.{asked, stands}
use Rattle.fc_volume.proofs.volume.Volume.cdir.Goals as goal

pub cdir-answer-requires-clause-stands : goal.cdir-answer-requires-clause-stands
cdir-answer-requires-clause-stands g c = stands c.args.self.now c.self.inside.holdings c.self.inside.read_only c.self.inside.fit c.self.view_is g.D.Disk c.args.disk.now c.requires.stands

pub returns : goal.returns
returns g c =
    let e = c.cdir-answer.ensures in
    asked c.args.self.now c.self.inside.holdings c.self.inside.read_only c.self.inside.fit c.self.view_is g.D.Disk (laws g.met.D.Disk) (Command.Cdir c.args.path.now) c.cdir-answer.new.holdings c.args.disk.now c.cdir-answer.new.disk
    c.cdir-answer.result c.is_fit_after-self-inside.result c.is_fit_after-self-inside.ensures c.requires.fit e.refused e.changed e.places e.leaves e.keeps
