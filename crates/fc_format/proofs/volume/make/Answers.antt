use Rattle.std.proofs.Common.{refl, arith}
use Rattle.fc_device.proofs.DiskLaws.{laws}
use Rattle.fc_device.proofs.StopLemmas.{keeps_same, keeps_start}
use Rattle.fc_format.specs.Fresh.{format_size}
use Rattle.fc_format.proofs.DiscLemmas.{sectors_reach}
use Rattle.fc_format.proofs.volume.make.Goals as goal

pub write_volume-requires-clause-on_disk : goal.write_volume-requires-clause-on_disk
write_volume-requires-clause-on_disk g c =
    sectors_reach c.args.f _ _ _ c.shape.ensures.size (g.met.D.Disk.whole_sectors c.shape.new.self)
    (omega (arith, c.shape.ensures.image.length_stays, c.if-have-need.false, c.length-have.ensures, c.size-need.ensures))

pub returns-clause-keeps : goal.returns-clause-keeps
returns-clause-keeps g c =
    let law = laws g.met.D.Disk in
    c.write_volume.ensures.keeps c.args.disk.now (format_size c.args.f) (omega arith)
    (keeps_same law (keeps_start law (λ image. refl) c.args.disk.now c.requires.settled) c.shape.ensures.stops c.shape.ensures.bytes)

pub returns-in_err-write_volume-clause-keeps : goal.returns-in_err-write_volume-clause-keeps
returns-in_err-write_volume-clause-keeps g c =
    let law = laws g.met.D.Disk in
    c.write_volume.ensures.keeps c.args.disk.now (format_size c.args.f) (omega arith)
    (keeps_same law (keeps_start law (λ image. refl) c.args.disk.now c.requires.settled) c.shape.ensures.stops c.shape.ensures.bytes)
