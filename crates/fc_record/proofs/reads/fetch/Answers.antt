use Rattle.std.proofs.Common.{◌≡◌, ◌*◌, ◌/◌, length, sym, ◌∙◌, ap, arith}
use Rattle.fc_record.proofs.ReadLemmas.{row_bytes}
use Rattle.fc_record.proofs.reads.fetch.Goals as goal

pub returns-clause-filled : goal.returns-clause-filled
returns-clause-filled g c =
    λ yes image told.
    let size = g.D.Disk.sector_size c.args.disk.now in
    c.in_ok-read_row.ensures.filled image told ∙ row_bytes size c.args.first (length c.args.into.now / 256) (length c.args.into.now) image c.requires.size
    (let whole : length c.args.into.now ≡ length c.args.into.now / 256 * 256 = omega (arith, c.requires.whole) in whole ∙ ap (λ k. length c.args.into.now / 256 * k) (sym c.requires.size))
