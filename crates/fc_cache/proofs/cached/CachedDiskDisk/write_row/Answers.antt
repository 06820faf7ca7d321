use Rattle.std.proofs.Common.{◌≡◌, refl, arith}
use Rattle.fc_device.proofs.DiskLaws.{laws, row_fits_in}
use Rattle.fc_cache.proofs.CachedLemmas.{right_without_row, row_part, row_stops, row_written, still_right, still_whole}
use Rattle.fc_cache.proofs.cached.CachedDiskDisk.write_row.Goals as goal

pub invariant_of-self : goal.invariant_of-self
invariant_of-self g c =
    let d = g.D.Disk in
    let was = c.args.self.now in
    let size = d.sector_size was.inner in
    let row = c.args.row in
    let same = c.write_row.ensures.form.size_stays in
    let kept = c.remove_row.new.self in
    let told = d.bytes c.write_row.new.self in
    let right = right_without_row was.kept kept size row.first row.sectors c.args.from.now (d.bytes was.inner) c.requires.whole (row_fits_in (laws g.met.D.Disk) was.inner row.first row.sectors c.requires.on_disk)
    told c.write_row.ensures.old_or_new was.right c.remove_row.ensures.no_more c.remove_row.ensures.none in
    record {
      whole = still_whole was.kept kept size _ same was.whole c.remove_row.ensures.no_more;
      right = still_right kept kept size _ told told same refl right (λ n bytes there. there);
    }

pub returns-then-row-eq1-clause-written : goal.returns-then-row-eq1-clause-written
returns-then-row-eq1-clause-written g c =
    let d = g.D.Disk in
    let was = c.args.self.now in
    let row = c.args.row in
    let one : row.sectors ≡ 1 = omega (arith, c.if-row-eq1.true) in
    row_written (d.sector_size was.inner) row.first row.sectors c.args.from.now one c.requires.whole c.write.result _ _ c.write.ensures.written

pub returns-then-row-eq1-clause-old_or_new : goal.returns-then-row-eq1-clause-old_or_new
returns-then-row-eq1-clause-old_or_new g c =
    let d = g.D.Disk in
    let was = c.args.self.now in
    let row = c.args.row in
    let one : row.sectors ≡ 1 = omega (arith, c.if-row-eq1.true) in
    row_part (d.sector_size was.inner) row.first row.sectors c.args.from.now one c.requires.whole _ _ (row_fits_in (laws g.met.D.Disk) was.inner row.first row.sectors c.requires.on_disk) c.write.ensures.old_or_new

pub returns-then-row-eq1-clause-stops : goal.returns-then-row-eq1-clause-stops
returns-then-row-eq1-clause-stops g c =
    let d = g.D.Disk in
    let was = c.args.self.now in
    let row = c.args.row in
    let one : row.sectors ≡ 1 = omega (arith, c.if-row-eq1.true) in
    row_stops (d.sector_size was.inner) row.first row.sectors c.args.from.now one c.requires.whole _ _ _ _ _ c.write.ensures.stops
