use Rattle.fc_device.proofs.DiskLaws.{laws}
use Rattle.fc_model.specs.Command.{Command}
use Rattle.fc_volume.proofs.CommandLemmas.{asked, stands}
use Rattle.fc_volume.proofs.volume.Volume.save.Goals as goal

pub save-answer-requires-clause-stands : goal.save-answer-requires-clause-stands
save-answer-requires-clause-stands g c = stands c.args.self.now c.self.inside.holdings c.self.inside.read_only c.self.inside.fit c.self.view_is g.D.Disk c.args.disk.now c.requires.stands

pub returns : goal.returns
returns g c =
    let e = c.save-answer.ensures in
    asked c.args.self.now c.self.inside.holdings c.self.inside.read_only c.self.inside.fit c.self.view_is g.D.Disk (laws g.met.D.Disk) (Command.Save c.args.path.now c.args.words.load c.args.words.exec c.args.bytes.now) c.save-answer.new.holdings c.args.disk.now c.save-answer.new.disk
    c.save-answer.result c.is_fit_after-self-inside.result c.is_fit_after-self-inside.ensures c.requires.fit e.refused e.changed e.places e.leaves e.keeps
