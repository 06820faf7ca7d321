use Rattle.std.proofs.Common.{ℕ, List, Vec, refl, subst}
use Rattle.std.specs.Global.{Global}
use Rattle.fc_device.proofs.DiskLaws.{laws, sector_fits}
use Rattle.fc_cache.specs.Sectors.{IsPut, entries_of}
use Rattle.fc_cache.proofs.CachedLemmas.{failed_write, still_whole, still_right, whole_with, right_with, right_without, written_at}
use Rattle.fc_cache.proofs.cached.CachedDiskDisk.write.Goals as goal

pub invariant_of-self : goal.invariant_of-self
invariant_of-self g c =
    let d = g.D.Disk in
    let was = c.args.self.now in
    let size = d.sector_size was.inner in
    let same = c.write.ensures.form.size_stays in
    let kept = c.remove.new.self in
    let told = d.bytes c.write.new.self in
    let right = right_without was.kept kept size c.args.n c.args.from.now (d.bytes was.inner) c.requires.whole (sector_fits (laws g.met.D.Disk) was.inner c.args.n c.requires.on_disk)
    told c.write.ensures.old_or_new was.right c.remove.ensures.no_more c.remove.ensures.none in
    record {
      whole = still_whole was.kept kept size _ same was.whole c.remove.ensures.no_more;
      right = still_right kept kept size _ told told same refl right (λ n bytes there. there);
    }

pub invariant_of-self-2 : goal.invariant_of-self-2
invariant_of-self-2 g c =
    let d = g.D.Disk in
    let was = c.args.self.now in
    let size = d.sector_size was.inner in
    let same = c.write.ensures.form.size_stays in
    let mid = c.remove.new.self in
    let kept = c.put.new.self in
    let told = d.bytes c.write.new.self in
    let fits = sector_fits (laws g.met.D.Disk) was.inner c.args.n c.requires.on_disk in
    let from = c.args.from.now in
    let whole = still_whole was.kept mid size size refl was.whole c.remove.ensures.no_more in
    let right = right_without was.kept mid size c.args.n from (d.bytes was.inner) c.requires.whole fits told c.write.ensures.old_or_new was.right c.remove.ensures.no_more c.remove.ensures.none in
    let here = written_at was.kept mid size c.args.n from (d.bytes was.inner) c.requires.whole fits told c.in_ok-write.ensures.written in
    record {
      whole = still_whole kept kept size _ same (whole_with mid kept size c.args.n from c.requires.whole whole c.put.ensures.no_more) (λ n bytes there. there);
      right = still_right kept kept size _ told told same refl (right_with mid kept size c.args.n from told here right c.put.ensures.no_more) (λ n bytes there. there);
    }

pub returns-in_err-write-clause-keeps : goal.returns-in_err-write-clause-keeps
returns-in_err-write-clause-keeps g c =
    failed_write c.from_residual.result c.from_residual.ensures.0 c.args.n c.args.from.now c.args.self.now.kept c.remove.new.self c.remove.ensures.order

pub returns-clause-keeps : goal.returns-clause-keeps
returns-clause-keeps g c = record {
  written = subst (λ (es : List (ℕ × Vec ℕ Global)). IsPut c.args.n c.args.from.now es (entries_of c.put.new.self)) c.remove.ensures.order c.put.ensures.order;
  failed = tt;
}
