use Rattle.std.proofs.Common.{ℕ, ◌+◌, ◌*◌, ◌∙◌, ap}
use Rattle.fc_device.specs.Sectors.{row_at}
use Rattle.fc_device.proofs.SectorLemmas.{slice-row_at}
use Rattle.fc_device.proofs.image.Image.read_row.Goals as goal

pub returns : goal.returns
returns c =
    let row = c.args.row in
    let size = c.args.self.now.size in
    c.copy_from_slice.ensures.after
    ∙ slice-row_at size c.deref.result.now row.first row.sectors _ (ap (λ (k : ℕ). row.first * size + k) c.requires.whole)
    ∙ ap (λ l. row_at size l row.first row.sectors) c.deref.ensures.value
