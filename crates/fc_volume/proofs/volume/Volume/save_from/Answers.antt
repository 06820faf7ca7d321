use Rattle.std.proofs.Common.{List, ℕ}
use Rattle.fc_device.proofs.DiskLaws.{laws}
use Rattle.fc_model.specs.Command.{Command}
use Rattle.fc_volume.proofs.CommandLemmas.{stands}
use Rattle.fc_volume.proofs.GivingLemmas.{asked_giving}
use Rattle.fc_volume.proofs.volume.Volume.save_from.Goals as goal

pub save_from-answer-requires-clause-stands : goal.save_from-answer-requires-clause-stands
save_from-answer-requires-clause-stands g c = stands c.args.self.now c.self.inside.holdings c.self.inside.read_only c.self.inside.fit c.self.view_is g.D.Disk c.args.disk.now c.requires.stands

pub returns : goal.returns
returns g c =
    let e = c.save_from-answer.ensures in
    asked_giving c.args.self.now c.self.inside.holdings c.self.inside.read_only c.self.inside.fit c.self.view_is g.D.Disk g.B.Supply (laws g.met.D.Disk) c.args.words.len
    (λ (bytes : List ℕ). Command.Save c.args.path.now c.args.words.load c.args.words.exec bytes) c.save_from-answer.new.holdings c.args.disk.now c.save_from-answer.new.disk c.args.from.now c.save_from-answer.new.from
    c.save_from-answer.result c.is_fit_after_giving-self-inside.result c.is_fit_after_giving-self-inside.ensures c.requires.fit e.refused e.given e.changed e.places e.leaves e.stopped e.alike e.keeps
