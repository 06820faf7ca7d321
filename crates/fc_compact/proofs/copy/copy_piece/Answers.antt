use Rattle.std.proofs.Common.{◌≡◌, ◌*◌, ◌∙◌, ℕ, length, ap, arith}
use Rattle.fc_device.specs.Sectors.{row_at}
use Rattle.fc_device.proofs.DiskLaws.{laws}
use Rattle.fc_compact.proofs.RowLemmas.{has_copied, tears_piece, tears_read}
use Rattle.fc_compact.proofs.copy.copy_piece.Goals as goal

pub returns-in_err-read_row-clause-tears : goal.returns-in_err-read_row-clause-tears
returns-in_err-read_row-clause-tears g c =
    tears_read (laws g.met.D.Disk) c.args.disk.now c.args.to.first c.args.to.sectors c.read_row.ensures.stops c.read_row.ensures.bytes

pub returns-in_err-write_row-clause-tears : goal.returns-in_err-write_row-clause-tears
returns-in_err-write_row-clause-tears g c =
    let long : length c.read_row.new.into ≡ length c.args.piece.now = omega (arith, c.read_row.auto.into) in
    let whole : length c.read_row.new.into ≡ c.args.to.sectors * g.D.Disk.sector_size c.args.disk.now =
    long ∙ c.requires.whole ∙ ap (λ (n : ℕ). n * g.D.Disk.sector_size c.args.disk.now) c.requires.same in
    tears_piece (laws g.met.D.Disk) c.args.disk.now c.args.to.first c.args.to.sectors c.requires.some c.requires.to_on_disk c.read_row.new.into whole
    c.read_row.ensures.stops c.read_row.ensures.bytes c.read_row.ensures.form.size_stays c.write_row.ensures.stops c.write_row.ensures.old_or_new

pub returns-clause-tears : goal.returns-clause-tears
returns-clause-tears g c =
    let long : length c.read_row.new.into ≡ length c.args.piece.now = omega (arith, c.read_row.auto.into) in
    let whole : length c.read_row.new.into ≡ c.args.to.sectors * g.D.Disk.sector_size c.args.disk.now =
    long ∙ c.requires.whole ∙ ap (λ (n : ℕ). n * g.D.Disk.sector_size c.args.disk.now) c.requires.same in
    tears_piece (laws g.met.D.Disk) c.args.disk.now c.args.to.first c.args.to.sectors c.requires.some c.requires.to_on_disk c.read_row.new.into whole
    c.read_row.ensures.stops c.read_row.ensures.bytes c.read_row.ensures.form.size_stays c.write_row.ensures.stops c.write_row.ensures.old_or_new

pub returns-clause-copied : goal.returns-clause-copied
returns-clause-copied g c =
    let size = g.D.Disk.sector_size c.args.disk.now in
    let long : length c.read_row.new.into ≡ length c.args.piece.now = omega (arith, c.read_row.auto.into) in
    let whole : length c.read_row.new.into ≡ c.args.to.sectors * size = long ∙ c.requires.whole ∙ ap (λ (n : ℕ). n * size) c.requires.same in
    has_copied (laws g.met.D.Disk) c.args.disk.now c.args.to.first c.args.to.sectors c.requires.some c.requires.to_on_disk c.read_row.new.into whole
    c.read_row.ensures.stops c.read_row.ensures.bytes c.read_row.ensures.form.size_stays c.args.from.first
    (λ image told. c.in_ok-read_row.ensures.filled image told ∙ ap (row_at size image c.args.from.first) c.requires.same) c.in_ok-write_row.ensures.written
