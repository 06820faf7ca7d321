use Rattle.std.proofs.Common.{◌≡◌, ℕ, ◌+◌, ◌-◌, ◌*◌, ◌<◌, ◌≤◌, length, take, drop, refl, ap, subst, ◌∙◌, sym, arith}
use Rattle.std.proofs.lemmas.Bool.{iff_false}
use Rattle.fc_device.specs.Memory.{bytes_of, sectors_written, size_of}
use Rattle.fc_device.specs.Sectors.{with_row, with_sector, IsMixOf}
use Rattle.fc_device.specs.Image.{told_is}
use Rattle.fc_device.proofs.DiskLaws.{form_same, form_then, row_fits_in}
use Rattle.fc_device.proofs.RowLemmas.{calls_made, goes_as, goes_then, left_ends, left_more, left_start, memory, memory_laws, recorded_as, row_more, row_start}
use Rattle.fc_device.proofs.SectorLemmas.{apart, mix_first, mix_row_more}
use Rattle.fc_device.proofs.StopLemmas.{tears_row_more, tears_row_start}
use Rattle.fc_device.proofs.memory.MemoryDiskDisk.write_row.Goals as goal

pub loop-i-init : goal.loop-i-init
loop-i-init c =
    let was = c.args.self.now in
    let n = c.args.row.first in
    let from = c.args.from.now in
    record {
      form = form_same memory was;
      goes = record { same_start = refl; same_failing = refl; same_room = refl; same_name = refl; same_space = refl; reads_now = refl; writes_now = refl; syncs_now = refl };
      left = left_start was c.args.row.sectors;
      faults = refl;
      stops = tears_row_start memory_laws was n from;
      still = λ image left. left;
      mixed = mix_first (size_of was) (bytes_of was) (with_row (size_of was) (bytes_of was) n from);
      done = row_start was n from;
    }

pub loop-i-preserved : goal.loop-i-preserved
loop-i-preserved c =
    let was = c.args.self.now in
    let mid = c.loop-i.self in
    let new = c.write.new.self in
    let row = c.args.row in
    let i = c.loop-i.i in
    let from = c.args.from.now in
    let size = size_of was in
    let inv = c.loop-i.invariant in
    let low : i * size + size ≤ length from = omega (arith, c.requires.whole, apart i row.sectors size c.loop-i-test.true) in
    let fits : row.first * size + length from ≤ length (bytes_of was) = omega (arith, c.requires.whole, row_fits_in memory_laws was row.first row.sectors c.requires.on_disk (bytes_of was) refl) in
    let piece = take (i * size + size - i * size) (drop (i * size) from) in
    let is : piece ≡ take size (drop (i * size) from) = (let e : i * size + size - i * size ≡ size = omega arith in ap (λ (k : ℕ). take k (drop (i * size) from)) e) in
    let same = inv.form.size_stays in
    let now : bytes_of new ≡ with_sector (size_of mid) (bytes_of mid) (row.first + i) piece = sym (told_is (bytes_of new) _ c.in_ok-write.ensures.written) in
    record {
      form = form_then memory inv.form c.write.ensures.form;
      goes = goes_then i inv.goes c.write.ensures.calls;
      left = left_more was mid new row.sectors i c.loop-i-test.true inv.left _ (iff_false c.in_ok-write.ensures.fails refl) c.write.ensures.calls c.in_ok-write.ensures.recorded.recorded;
      faults = c.in_ok-write.ensures.count.same ∙ inv.faults;
      stops = tears_row_more memory_laws row.first i from piece same low is inv.stops c.write.ensures.stops;
      still = λ image left. c.write.ensures.still image (inv.still image left);
      mixed = subst (IsMixOf size (bytes_of was) (with_row size (bytes_of was) row.first from))
          (sym (now ∙ ap (λ (k : ℕ). with_sector k (bytes_of mid) (row.first + i) piece) same ∙ ap (with_sector size (bytes_of mid) (row.first + i)) is))
          (mix_row_more size (bytes_of was) row.first from (bytes_of mid) i low fits inv.mixed);
      done = row_more was mid new row.first i from piece same fits low is inv.done c.in_ok-write.ensures.recorded now;
    }

pub returns-in_err-write-clause-stops : goal.returns-in_err-write-clause-stops
returns-in_err-write-clause-stops c =
    let was = c.args.self.now in
    let row = c.args.row in
    let i = c.loop-i.i in
    let from = c.args.from.now in
    let size = size_of was in
    let inv = c.loop-i.invariant in
    let low : i * size + size ≤ length from = omega (arith, c.requires.whole, apart i row.sectors size c.loop-i-test.true) in
    let piece = take (i * size + size - i * size) (drop (i * size) from) in
    let is : piece ≡ take size (drop (i * size) from) = (let e : i * size + size - i * size ≡ size = omega arith in ap (λ (k : ℕ). take k (drop (i * size) from)) e) in
    tears_row_more memory_laws row.first i from piece inv.form.size_stays low is inv.stops c.write.ensures.stops

pub returns-in_err-write-clause-fails : goal.returns-in_err-write-clause-fails
returns-in_err-write-clause-fails c =
    let was = c.args.self.now in
    let i = c.loop-i.i in
    let sectors = c.args.row.sectors in
    let ends = left_ends was c.loop-i.self c.loop-i.self sectors i c.loop-i-test.true c.loop-i.invariant.left (c.in_err-write.ensures.fails.0 refl) in
    let less : sectors_written was sectors < sectors = omega (arith, ends, c.loop-i-test.true) in
    (λ failed. less, λ fewer. c.from_residual.ensures.0)

pub returns-in_err-write-clause-calls : goal.returns-in_err-write-clause-calls
returns-in_err-write-clause-calls c =
    let was = c.args.self.now in
    let mid = c.loop-i.self in
    let i = c.loop-i.i in
    let sectors = c.args.row.sectors in
    let ends = left_ends was mid mid sectors i c.loop-i-test.true c.loop-i.invariant.left (c.in_err-write.ensures.fails.0 refl) in
    let made = calls_made (sectors_written was sectors) sectors i ends c.loop-i-test.true in
    goes_as (sym made) (goes_then i c.loop-i.invariant.goes c.write.ensures.calls)

pub returns-in_err-write-clause-recorded : goal.returns-in_err-write-clause-recorded
returns-in_err-write-clause-recorded c =
    let was = c.args.self.now in
    let mid = c.loop-i.self in
    let i = c.loop-i.i in
    let sectors = c.args.row.sectors in
    let ends = left_ends was mid mid sectors i c.loop-i-test.true c.loop-i.invariant.left (c.in_err-write.ensures.fails.0 refl) in
    recorded_as (sym ends) c.loop-i.invariant.done c.in_err-write.ensures.unchanged
