use Rattle.std.proofs.Common.{List, ◌++◌, refl, ◌≡◌, ◌<◌, ◌+◌, ◌*◌, ◌∙◌, ℕ, All, drop, length, append_assoc, length-append, ap, subst, sym, arith}
use Rattle.fc_device.proofs.DiskLaws.{form_then, laws}
use Rattle.fc_objects.specs.Ahead.{ahead}
use Rattle.std.proofs.lemmas.List.FromFn.{length-range_with_len}
use Rattle.fc_objects.specs.Extents.{extent_sectors, sectors_in}
use Rattle.std.proofs.lemmas.List.{append-nil}
use Rattle.fc_objects.specs.Written.{HasParts, padded}
use Rattle.fc_objects.proofs.AheadLemmas.{all_back}
use Rattle.fc_objects.proofs.PassLemmas.{done_more, exit_more, keeps_of, next_row, next_row_on_disk, sectors_fit, tear_more, told_more}
use Rattle.fc_objects.proofs.WriteLemmas.{end_row, left_more, next_row_of, reads_back}
use Rattle.fc_objects.proofs.writer.write_object.Goals as goal

pub next_row-requires-clause-fit : goal.next_row-requires-clause-fit
next_row-requires-clause-fit g c =
    let walk = c.loop-row.invariant.walk in
    let n = g.D.Disk.sectors c.args.disk.now in
    sectors_fit (laws g.met.D.Disk) c.args.disk.now (ahead c.loop-row.sectors)
    (all_back (λ k. k < n) walk.0 (ahead c.loop-row.sectors) (subst (All (λ k. k < n)) walk.1 c.requires.on_disk))

pub write_next-requires-clause-zeros : goal.write_next-requires-clause-zeros
write_next-requires-clause-zeros g c =
    end_row c.in-Some.row.sectors c.args.size (length c.loop-row.left.now) c.sectors_at_once.result c.in-Some.ensures.most c.sectors_at_once.ensures.zeros c.sectors_at_once.ensures.enough

pub write_next-requires-clause-on_disk : goal.write_next-requires-clause-on_disk
write_next-requires-clause-on_disk g c =
    let inv = c.loop-row.invariant in
    let walk = inv.walk in
    let sectors = sectors_in c.args.at.now in
    let after = ahead c.next_row.new.self in
    let row = c.in-Some.row in
    let law = laws g.met.D.Disk in
    let cut = next_row sectors walk.0 (ahead c.loop-row.sectors) after row walk.1 c.in-Some.ensures.row in
    let next = next_row_of sectors walk.0 after row.first row.sectors cut in
    omega (arith, next_row_on_disk law c.args.disk.now sectors walk.0 row.first row.sectors c.in-Some.ensures.some c.requires.on_disk next, inv.form.sectors_stay)

pub returns-in_err-write_next-clause-part : goal.returns-in_err-write_next-clause-part
returns-in_err-write_next-clause-part g c = λ was told.
    let inv = c.loop-row.invariant in
    let walk = inv.walk in
    let sectors = sectors_in c.args.at.now in
    let after = ahead c.next_row.new.self in
    let row = c.in-Some.row in
    let from = c.args.from.now in
    let left = c.loop-row.left.now in
    let law = laws g.met.D.Disk in
    let some = c.in-Some.ensures.some in
    let cut = next_row sectors walk.0 (ahead c.loop-row.sectors) after row walk.1 c.in-Some.ensures.row in
    let next = next_row_of sectors walk.0 after row.first row.sectors cut in
    let size = g.D.Disk.sector_size c.args.disk.now in
    let piece : padded (row.sectors * c.args.size) left ≡ padded (row.sectors * size) (drop (length walk.0 * size) from) =
    ap (λ (k : ℕ). padded (row.sectors * k) left) (sym c.requires.size) ∙ ap (padded (row.sectors * size)) walk.2 in
    exit_more law sectors walk.0 from (padded (row.sectors * c.args.size) left) row.first row.sectors some next inv.form.size_stays piece was (inv.part was told).0 told c.requires.on_disk (inv.part was told).1 (inv.part was told).2 c.write_next.ensures.old_or_new

pub returns-in_err-write_next-clause-stops : goal.returns-in_err-write_next-clause-stops
returns-in_err-write_next-clause-stops g c =
    let inv = c.loop-row.invariant in
    let walk = inv.walk in
    let sectors = sectors_in c.args.at.now in
    let after = ahead c.next_row.new.self in
    let row = c.in-Some.row in
    let from = c.args.from.now in
    let left = c.loop-row.left.now in
    let law = laws g.met.D.Disk in
    let some = c.in-Some.ensures.some in
    let cut = next_row sectors walk.0 (ahead c.loop-row.sectors) after row walk.1 c.in-Some.ensures.row in
    let next = next_row_of sectors walk.0 after row.first row.sectors cut in
    let size = g.D.Disk.sector_size c.args.disk.now in
    let piece : padded (row.sectors * c.args.size) left ≡ padded (row.sectors * size) (drop (length walk.0 * size) from) =
    ap (λ (k : ℕ). padded (row.sectors * k) left) (sym c.requires.size) ∙ ap (padded (row.sectors * size)) walk.2 in
    tear_more law sectors walk.0 from (padded (row.sectors * c.args.size) left) row.first row.sectors some next inv.form.size_stays piece inv.stops c.write_next.ensures.stops

pub returns-in_err-write_next-clause-keeps : goal.returns-in_err-write_next-clause-keeps
returns-in_err-write_next-clause-keeps g c = λ quiet.
    let inv = c.loop-row.invariant in
    let walk = inv.walk in
    let sectors = sectors_in c.args.at.now in
    let after = ahead c.next_row.new.self in
    let row = c.in-Some.row in
    let from = c.args.from.now in
    let left = c.loop-row.left.now in
    let law = laws g.met.D.Disk in
    let some = c.in-Some.ensures.some in
    let cut = next_row sectors walk.0 (ahead c.loop-row.sectors) after row walk.1 c.in-Some.ensures.row in
    let next = next_row_of sectors walk.0 after row.first row.sectors cut in
    let size = g.D.Disk.sector_size c.args.disk.now in
    let piece : padded (row.sectors * c.args.size) left ≡ padded (row.sectors * size) (drop (length walk.0 * size) from) =
    ap (λ (k : ℕ). padded (row.sectors * k) left) (sym c.requires.size) ∙ ap (padded (row.sectors * size)) walk.2 in
    keeps_of law sectors from quiet c.requires.on_disk
    (tear_more law sectors walk.0 from (padded (row.sectors * c.args.size) left) row.first row.sectors some next inv.form.size_stays piece inv.stops c.write_next.ensures.stops)
    (λ was told. exit_more law sectors walk.0 from (padded (row.sectors * c.args.size) left) row.first row.sectors some next inv.form.size_stays piece was (inv.part was told).0 told c.requires.on_disk (inv.part was told).1 (inv.part was told).2 c.write_next.ensures.old_or_new)
    (told_more law c.write_next.ensures.old_or_new inv.told)

pub loop-row-preserved : goal.loop-row-preserved
loop-row-preserved g c =
    let inv = c.loop-row.invariant in
    let walk = inv.walk in
    let sectors = sectors_in c.args.at.now in
    let after = ahead c.next_row.new.self in
    let row = c.in-Some.row in
    let from = c.args.from.now in
    let left = c.loop-row.left.now in
    let law = laws g.met.D.Disk in
    let some = c.in-Some.ensures.some in
    let cut = next_row sectors walk.0 (ahead c.loop-row.sectors) after row walk.1 c.in-Some.ensures.row in
    let next = next_row_of sectors walk.0 after row.first row.sectors cut in
    let size = g.D.Disk.sector_size c.args.disk.now in
    let piece : padded (row.sectors * c.args.size) left ≡ padded (row.sectors * size) (drop (length walk.0 * size) from) =
    ap (λ (k : ℕ). padded (row.sectors * k) left) (sym c.requires.size) ∙ ap (padded (row.sectors * size)) walk.2 in
    let low = next_row_on_disk law c.args.disk.now sectors walk.0 row.first row.sectors some c.requires.on_disk next in
    let here = extent_sectors row in
    let count : length (walk.0 ++ here) ≡ length walk.0 + row.sectors =
    length-append walk.0 here ∙ ap (λ (k : ℕ). length walk.0 + k) (length-range_with_len row.first row.sectors) in
    record {
      form = form_then g.D.Disk inv.form c.write_next.ensures.form;
      faults = omega (arith, inv.faults, c.write_next.ensures.cause.later);
      read_calls = c.write_next.ensures.read_calls ∙ inv.read_calls;
      still = λ image was. c.write_next.ensures.still image (inv.still image was);
      stops = tear_more law sectors walk.0 from (padded (row.sectors * c.args.size) left) row.first row.sectors some next inv.form.size_stays piece inv.stops c.write_next.ensures.stops;
      part = λ was told. exit_more law sectors walk.0 from (padded (row.sectors * c.args.size) left) row.first row.sectors some next inv.form.size_stays piece was (inv.part was told).0 told c.requires.on_disk (inv.part was told).1 (inv.part was told).2 c.write_next.ensures.old_or_new;
      told = told_more law c.write_next.ensures.old_or_new inv.told;
      walk = (
        walk.0 ++ here,
        cut ∙ sym (append_assoc walk.0 here after),
        left_more size c.args.size (length walk.0) (length (walk.0 ++ here)) row.sectors c.min.result from left walk.2 c.min.ensures c.requires.size count,
        done_more law sectors walk.0 from (padded (row.sectors * c.args.size) left) row.first row.sectors some next inv.form.size_stays piece after cut (omega (arith, low, inv.form.sectors_stay)) c.in_ok-write_next.ensures.written walk.3,
      );
    }

pub returns-clause-keeps : goal.returns-clause-keeps
returns-clause-keeps g c = λ quiet.
    let inv = c.loop-row.invariant in
    keeps_of (laws g.met.D.Disk) (sectors_in c.args.at.now) c.args.from.now quiet c.requires.on_disk inv.stops inv.part inv.told

pub returns-clause-reads_back : goal.returns-clause-reads_back
returns-clause-reads_back g c = λ apart room image told.
    let walk = c.loop-row.invariant.walk in
    let sectors = sectors_in c.args.at.now in
    let size = g.D.Disk.sector_size c.args.disk.now in
    let all : sectors ≡ walk.0 = walk.1 ∙ ap (λ (xs : List ℕ). walk.0 ++ xs) (c.in_default.ensures.end refl) ∙ append-nil walk.0 in
    reads_back size image sectors c.args.from.now (subst (λ (xs : List ℕ). HasParts size xs c.args.from.now image) (sym all) (walk.3 apart image told)) room

pub loop-row-smaller : goal.loop-row-smaller
loop-row-smaller g c =
    let row = c.in-Some.row in
    let after = ahead c.next_row.new.self in
    let long : length (ahead c.loop-row.sectors) ≡ row.sectors + length after =
    ap length c.in-Some.ensures.row ∙ length-append (extent_sectors row) after ∙ ap (λ (k : ℕ). k + length after) (length-range_with_len row.first row.sectors) in
    omega (arith, long, c.in-Some.ensures.some)
