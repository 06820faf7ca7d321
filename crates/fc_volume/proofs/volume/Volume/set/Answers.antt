use Rattle.fc_device.proofs.DiskLaws.{laws}
use Rattle.fc_model.specs.Command.{Command}
use Rattle.fc_volume.proofs.CommandLemmas.{asked, same_map, stands}
use Rattle.fc_volume.proofs.volume.Volume.set.Goals as goal

pub set-answer-requires-clause-stands : goal.set-answer-requires-clause-stands
set-answer-requires-clause-stands g c = stands c.args.self.now c.self.inside.holdings c.self.inside.read_only c.self.inside.fit c.self.view_is g.D.Disk c.args.disk.now c.requires.stands

pub returns-clause-asked : goal.returns-clause-asked
returns-clause-asked g c =
    let e = c.set-answer.ensures in
    asked c.args.self.now c.self.inside.holdings c.self.inside.read_only c.self.inside.fit c.self.view_is g.D.Disk (laws g.met.D.Disk) (Command.Set c.args.path.now c.args.words.load c.args.words.exec c.args.words.access) c.set-answer.new.holdings c.args.disk.now c.set-answer.new.disk
    c.set-answer.result c.is_fit_after-self-inside.result c.is_fit_after-self-inside.ensures c.requires.fit e.refused e.changed e.places e.leaves e.keeps

pub returns-clause-map : goal.returns-clause-map
returns-clause-map g c =
    same_map c.args.self.now c.self.inside.holdings c.self.inside.read_only c.self.inside.fit c.self.view_is g.D.Disk c.args.disk.now c.set-answer.new.disk c.set-answer.ensures.map
