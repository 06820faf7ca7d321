use Rattle.std.proofs.Common.{◌≡◌, sym, ap, ◌∙◌, arith}
use Rattle.std.proofs.lemmas.Result.{on_ok_weaker}
use Rattle.fc_device.specs.Sectors.{row_at}
use Rattle.fc_device.proofs.SectorLemmas.{row_at-one}
use Rattle.fc_cache.proofs.CachedLemmas.{still_whole, still_right}
use Rattle.fc_cache.proofs.cached.CachedDiskDisk.read_row.Goals as goal

pub invariant_of-self : goal.invariant_of-self
invariant_of-self g c =
    let was = c.args.self.now in
    let size = g.D.Disk.sector_size was.inner in
    let same = c.read_row.ensures.form.size_stays in
    record {
      whole = still_whole was.kept was.kept size _ same was.whole (λ n bytes there. there);
      right = still_right was.kept was.kept size _ _ _ same c.read_row.ensures.bytes was.right (λ n bytes there. there);
    }

pub returns-then-row-eq1-clause-filled : goal.returns-then-row-eq1-clause-filled
returns-then-row-eq1-clause-filled g c =
    let size = g.D.Disk.sector_size c.args.self.now.inner in
    let row = c.args.row in
    let one : row.sectors ≡ 1 = omega (arith, c.if-row-eq1.true) in
    on_ok_weaker c.read.result (λ filled image told. filled image told ∙ sym (row_at-one size image row.first) ∙ ap (row_at size image row.first) (sym one)) c.read.ensures.filled
