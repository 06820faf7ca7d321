use Rattle.std.proofs.Common.{[], sym, ◌∙◌}
use Rattle.fc_device.proofs.DiskLaws.{laws}
use Rattle.fc_device.proofs.StopLemmas.{keeps_same, keeps_weaker}
use Rattle.fc_device.specs.Calls.{StopsAndExitsLeave}
use Rattle.fc_writing.specs.Content.{IsPart}
use Rattle.fc_writing.specs.Ready.{carried_by}
use Rattle.fc_writing.proofs.ContentLemmas.{has_lent, part_lent}
use Rattle.fc_writing.proofs.pieces.copy_in.Given.{Over}
use Rattle.fc_writing.proofs.pieces.copy_in.Goals as goal
use Rattle.fc_writing.proofs.pieces.copy_in.Goals.{After-copy_sectors}

left : (g : Over) (c : After-copy_sectors g) → StopsAndExitsLeave g.D.Disk c.args.disk.now c.copy_sectors.new.disk (λ was image. IsPart c.args.size [] (carried_by c.args.size was c.args.transfer.now) was image)
left g c =
    keeps_weaker (laws g.met.D.Disk) c.copy_sectors.ensures.keeps
    (λ was image part. part_lent c.args.size (g.D.Disk.sector_size c.args.disk.now) c.args.transfer.now.from.items c.deref.result.now c.args.transfer.now.to.items c.deref-2.result.now was image
    c.requires.size c.deref.ensures.value c.deref-2.ensures.value part)

pub returns-in_err-copy_sectors-clause-keeps : goal.returns-in_err-copy_sectors-clause-keeps
returns-in_err-copy_sectors-clause-keeps g c = left g (goal.at.returns-in_err-copy_sectors-clause-keeps g c).After-copy_sectors

pub returns-in_err-sync-clause-keeps : goal.returns-in_err-sync-clause-keeps
returns-in_err-sync-clause-keeps g c = keeps_same (laws g.met.D.Disk) (left g (goal.at.returns-in_err-sync-clause-keeps g c).After-copy_sectors) c.sync.ensures.stops c.sync.ensures.bytes

pub returns-clause-keeps : goal.returns-clause-keeps
returns-clause-keeps g c = keeps_same (laws g.met.D.Disk) (left g (goal.at.returns-clause-keeps g c).After-copy_sectors) c.sync.ensures.stops c.sync.ensures.bytes

pub returns-clause-written : goal.returns-clause-written
returns-clause-written g c = λ once was told image is.
    has_lent c.args.size (g.D.Disk.sector_size c.args.disk.now) c.args.transfer.now.from.items c.deref.result.now c.args.transfer.now.to.items c.deref-2.result.now was image
    c.requires.size c.deref.ensures.value c.deref-2.ensures.value c.requires.enough once
    (λ apart i low. c.in_ok-copy_sectors.ensures.copied apart was told image (sym c.sync.ensures.bytes ∙ is) i low)
