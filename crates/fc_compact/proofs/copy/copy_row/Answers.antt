use Rattle.std.proofs.Common.{◌<◌, ◌≤◌, ◌+◌, arith}
use Rattle.fc_device.proofs.DiskLaws.{form_then, laws}
use Rattle.fc_compact.proofs.RowLemmas.{copied_then, tears_then}
use Rattle.fc_compact.proofs.copy.copy_row.Goals as goal

pub returns-in_err-copy_piece-clause-tears : goal.returns-in_err-copy_piece-clause-tears
returns-in_err-copy_piece-clause-tears g c =
    let was = c.loop-done.invariant in
    let done = c.loop-done.done in
    let k = c.min-sectors.result in
    tears_then (laws g.met.D.Disk) c.args.disk.now c.args.to c.args.count done k (omega (arith, was.within, c.min-sectors.ensures)) was.form.size_stays was.tears c.copy_piece.ensures.tears

pub loop-done-preserved : goal.loop-done-preserved
loop-done-preserved g c =
    let law = laws g.met.D.Disk in
    let was = c.loop-done.invariant in
    let done = c.loop-done.done in
    let k = c.min-sectors.result in
    let some : 0 < k = omega (arith, c.sectors_at_once-most.ensures.some, c.loop-done-test.true, c.min-sectors.ensures) in
    let le : done + k ≤ c.args.count = omega (arith, was.within, c.min-sectors.ensures) in
    record {
      form = form_then g.D.Disk was.form c.copy_piece.ensures.form;
      within = le;
      tears = tears_then law c.args.disk.now c.args.to c.args.count done k le was.form.size_stays was.tears c.copy_piece.ensures.tears;
      copied = copied_then law c.args.disk.now c.args.to c.args.count c.args.from done k some le c.requires.on_disk c.requires.to_on_disk c.requires.apart was.form.size_stays was.tears was.copied
          c.in_ok-copy_piece.ensures.copied;
      faults = omega (arith, was.faults, c.copy_piece.ensures.cause.later);
    }
