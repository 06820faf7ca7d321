use Rattle.fc_device.proofs.DiskLaws.{laws}
use Rattle.fc_model.specs.Command.{Command}
use Rattle.fc_volume.proofs.CommandLemmas.{asked, stands}
use Rattle.fc_volume.proofs.volume.Volume.rename.Goals as goal

pub rename-answer-requires-clause-stands : goal.rename-answer-requires-clause-stands
rename-answer-requires-clause-stands g c = stands c.args.self.now c.self.inside.holdings c.self.inside.read_only c.self.inside.fit c.self.view_is g.D.Disk c.args.disk.now c.requires.stands

pub returns : goal.returns
returns g c =
    let e = c.rename-answer.ensures in
    asked c.args.self.now c.self.inside.holdings c.self.inside.read_only c.self.inside.fit c.self.view_is g.D.Disk (laws g.met.D.Disk) (Command.Rename c.args.from.now c.args.to.now) c.rename-answer.new.holdings c.args.disk.now c.rename-answer.new.disk
    c.rename-answer.result c.is_fit_after-self-inside.result c.is_fit_after-self-inside.ensures c.requires.fit e.refused e.changed e.places e.leaves e.keeps
