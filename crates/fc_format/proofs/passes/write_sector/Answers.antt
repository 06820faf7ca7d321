use Rattle.fc_device.proofs.DiskLaws.{laws}
use Rattle.fc_format.proofs.PassLemmas.{behind_write, lengthens_write}
use Rattle.fc_format.proofs.passes.write_sector.Goals as goal

pub returns-in_err-write-clause-keeps : goal.returns-in_err-write-clause-keeps
returns-in_err-write-clause-keeps g c = behind_write (laws g.met.D.Disk) _ _ c.args.n c.args.sector.now c.requires.size c.requires.whole c.write.ensures.stops c.write.ensures.old_or_new

pub returns-clause-keeps : goal.returns-clause-keeps
returns-clause-keeps g c = behind_write (laws g.met.D.Disk) _ _ c.args.n c.args.sector.now c.requires.size c.requires.whole c.write.ensures.stops c.write.ensures.old_or_new

pub returns-clause-front : goal.returns-clause-front
returns-clause-front g c = lengthens_write g.D.Disk _ _ _ c.args.n c.args.sector.now c.requires.size c.requires.whole c.in_ok-write.ensures.written
