use Rattle.fc_device.proofs.DiskLaws.{laws}
use Rattle.fc_model.specs.Command.{Command}
use Rattle.fc_volume.proofs.CommandLemmas.{asked, same_map, stands}
use Rattle.fc_volume.proofs.volume.Volume.mark.Goals as goal

pub mark-answer-requires-clause-stands : goal.mark-answer-requires-clause-stands
mark-answer-requires-clause-stands g c = stands c.args.self.now c.self.inside.holdings c.self.inside.read_only c.self.inside.fit c.self.view_is g.D.Disk c.args.disk.now c.requires.stands

pub returns-clause-asked : goal.returns-clause-asked
returns-clause-asked g c =
    let e = c.mark-answer.ensures in
    asked c.args.self.now c.self.inside.holdings c.self.inside.read_only c.self.inside.fit c.self.view_is g.D.Disk (laws g.met.D.Disk) (Command.Mark c.args.path.now c.args.attrs) c.mark-answer.new.holdings c.args.disk.now c.mark-answer.new.disk
    c.mark-answer.result c.is_fit_after-self-inside.result c.is_fit_after-self-inside.ensures c.requires.fit e.refused e.changed e.places e.leaves e.keeps

pub returns-clause-map : goal.returns-clause-map
returns-clause-map g c =
    same_map c.args.self.now c.self.inside.holdings c.self.inside.read_only c.self.inside.fit c.self.view_is g.D.Disk c.args.disk.now c.mark-answer.new.disk c.mark-answer.ensures.map
