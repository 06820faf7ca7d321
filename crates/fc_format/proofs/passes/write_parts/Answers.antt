use Rattle.std.proofs.Common.{◌≡◌, ◌+◌, ◌*◌, ◌/◌, List, [], length, drop, slice_index_or, ℕ, subst, sym, arith}
use Rattle.std.proofs.lemmas.List.{drop_all}
use Rattle.std.proofs.lemmas.Result.{on_ok_weaker}
use Rattle.fc_device.proofs.DiskLaws.{form_same, form_then}
use Rattle.fc_format.specs.Passes.{Part}
use Rattle.fc_format.proofs.PassLemmas.{HasLaid, behind_then, laid_end, laid_part, laid_start, next_part, part_end}
use Rattle.fc_format.proofs.passes.write_parts.Goals as goal

-- what stands for a part that isn't there
abbrev none : Part
none = (0, record { ref_ptr = (0, 0); now = [] })

pub loop-part-init : goal.loop-part-init
loop-part-init g c = record {
  form = form_same g.D.Disk c.args.disk.now;
  laid = laid_start g.D.Disk c.args.disk.now c.args.parts.now c.args.end c.requires.parts;
  faults = omega arith;
}

pub write_part-requires-clause-order : goal.write_part-requires-clause-order
write_part-requires-clause-order g c =
    let i = c.loop-part.part-index in
    let parts = c.args.parts.now in
    let here = subst (λ (l : List Part). HasLaid g.D.Disk c.args.disk.now c.loop-part.disk c.loop-part.at l parts c.args.end) (next_part parts i none c.loop-part-test.true) c.loop-part.invariant.laid in
    here.fits.0

pub write_part-requires-clause-whole : goal.write_part-requires-clause-whole
write_part-requires-clause-whole g c =
    let i = c.loop-part.part-index in
    let parts = c.args.parts.now in
    let here = subst (λ (l : List Part). HasLaid g.D.Disk c.args.disk.now c.loop-part.disk c.loop-part.at l parts c.args.end) (next_part parts i none c.loop-part-test.true) c.loop-part.invariant.laid in
    here.fits.1

pub write_part-requires-clause-on_disk : goal.write_part-requires-clause-on_disk
write_part-requires-clause-on_disk g c =
    let i = c.loop-part.part-index in
    let parts = c.args.parts.now in
    let part = slice_index_or parts i none in
    let here = subst (λ (l : List Part). HasLaid g.D.Disk c.args.disk.now c.loop-part.disk c.loop-part.at l parts c.args.end) (next_part parts i none c.loop-part-test.true) c.loop-part.invariant.laid in
    let last = part_end c.loop-part.at part (drop (i + 1) parts) c.args.end here.fits in
    omega (arith, last, c.requires.on_disk, c.loop-part.invariant.form.sectors_stay)

pub loop-part-preserved : goal.loop-part-preserved
loop-part-preserved g c =
    let d = g.D.Disk in
    let was = c.loop-part.invariant in
    let start = c.args.disk.now in
    let mid = c.loop-part.disk in
    let new = c.write_part.new.disk in
    let end = c.args.end in
    let i = c.loop-part.part-index in
    let parts = c.args.parts.now in
    let part = slice_index_or parts i none in
    let left = drop (i + 1) parts in
    let here = subst (λ (l : List Part). HasLaid d start mid c.loop-part.at l parts end) (next_part parts i none c.loop-part-test.true) was.laid in
    let next = laid_part d start mid new c.loop-part.at part left parts end here c.in_ok-at.ensures.front c.write_part.ensures.keeps in
    record {
      form = form_then d was.form c.write_part.ensures.form;
      laid = subst (λ (n : ℕ). HasLaid d start new n left parts end) (sym c.in_ok-at.ensures.end) next;
      faults = omega (arith, was.faults, c.write_part.ensures.cause.later);
    }

pub returns-in_err-at-clause-keeps : goal.returns-in_err-at-clause-keeps
returns-in_err-at-clause-keeps g c =
    let i = c.loop-part.part-index in
    let parts = c.args.parts.now in
    let part = slice_index_or parts i none in
    let here = subst (λ (l : List Part). HasLaid g.D.Disk c.args.disk.now c.loop-part.disk c.loop-part.at l parts c.args.end) (next_part parts i none c.loop-part-test.true) c.loop-part.invariant.laid in
    let last = part_end c.loop-part.at part (drop (i + 1) parts) c.args.end here.fits in
    behind_then g.D.Disk c.args.disk.now c.loop-part.disk c.write_part.new.disk (256 * c.args.end) (256 * (part.0 + length part.1.now / 256)) _ (omega arith) (omega (arith, last)) c.loop-part.invariant.laid.keeps c.write_part.ensures.keeps

pub returns-clause-keeps : goal.returns-clause-keeps
returns-clause-keeps g c =
    behind_then g.D.Disk c.args.disk.now c.loop-part.disk c.write_zeros.new.disk (256 * c.args.end) (256 * c.args.end) _ (omega arith) (omega arith) c.loop-part.invariant.laid.keeps c.write_zeros.ensures.keeps

pub returns-clause-front : goal.returns-clause-front
returns-clause-front g c =
    let parts = c.args.parts.now in
    let all : drop c.loop-part.part-index parts ≡ [] = drop_all c.loop-part.part-index parts (omega (arith, c.loop-part-test.false)) in
    let here = subst (λ (l : List Part). HasLaid g.D.Disk c.args.disk.now c.loop-part.disk c.loop-part.at l parts c.args.end) all c.loop-part.invariant.laid in
    on_ok_weaker c.write_zeros.result (laid_end g.D.Disk c.args.disk.now c.loop-part.disk c.write_zeros.new.disk c.loop-part.at parts c.args.end here) c.write_zeros.ensures.front
