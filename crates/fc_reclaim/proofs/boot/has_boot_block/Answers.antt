use Rattle.std.proofs.Common.{◌≡◌, ◌/◌, ap, ◌∙◌, arith}
use Rattle.fc_device.proofs.DiskLaws.{laws}
use Rattle.fc_record.proofs.ReadLemmas.{row_bytes}
use Rattle.fc_reclaim.proofs.BootLemmas.{block_fits, too_short}
use Rattle.fc_reclaim.proofs.boot.has_boot_block.Goals as goal

pub returns-then-sectors-clause-found : goal.returns-then-sectors-clause-found
returns-then-sectors-clause-found g c = λ image told.
    let law = laws g.met.D.Disk in
    let whole : g.D.Disk.sectors c.args.disk.now ≡ g.D.Disk.image_length c.args.disk.now / 256 = law.whole_sectors c.args.disk.now ∙ ap (λ k. g.D.Disk.image_length c.args.disk.now / k) c.requires.size in
    too_short image (omega (arith, whole, law.told_length c.args.disk.now image told, c.if-sectors.true, c.sectors.ensures))

pub returns-clause-found : goal.returns-clause-found
returns-clause-found g c = λ image told.
    let law = laws g.met.D.Disk in
    let whole : g.D.Disk.sectors c.args.disk.now ≡ g.D.Disk.image_length c.args.disk.now / 256 = law.whole_sectors c.args.disk.now ∙ ap (λ k. g.D.Disk.image_length c.args.disk.now / k) c.requires.size in
    c.is_boot_block.ensures
    ∙ block_fits image _ (omega (arith, whole, law.told_length c.args.disk.now image told, c.if-sectors.false, c.sectors.ensures))
    (c.in_ok-read_row.ensures.filled image told ∙ row_bytes (g.D.Disk.sector_size c.args.disk.now) 12 2 512 image c.requires.size (omega (arith, c.requires.size)))
