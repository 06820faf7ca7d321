use Rattle.std.proofs.Common.{◌≡◌, ◌∙◌, [], ℕ, Result, Ok, take, ap, subst, sym, arith}
use Rattle.std.proofs.lemmas.Result.{err_from_is_err_and}
use Rattle.hex.specs.Hex.{encode_lower}
use Rattle.fc_device.specs.declared.disk.DiskFault.{DiskFault}
use Rattle.fc_device.proofs.DiskLaws.{laws}
use Rattle.fc_device.proofs.StopLemmas.{reads_start, reads_then}
use Rattle.fc_image.specs.Layout.{bytes_in}
use Rattle.fc_objects.specs.Bytes.{bytes_ahead}
use Rattle.fc_objects.specs.Extents.{sectors_in}
use Rattle.fc_shell.specs.Readable.{HasSectors}
use Rattle.fc_shell.proofs.BlockLemmas.{all_ahead, block_digits}
use Rattle.fc_shell.proofs.DigitLemmas.{no_digits}
use Rattle.fc_shell.proofs.ToldLemmas.{told_stopped}
use Rattle.fc_shell.proofs.WritingLemmas.{all_done, one_more, part_more, part_of_first, wrote_nothing, wrote_part}
use Rattle.fc_shell.proofs.files.write_blocks.Goals as goal

pub loop-count-init : goal.loop-count-init
loop-count-init g c =
    let reader = c.new-reader.result in
    let at = c.new-reader.ensures in
    record {
      reads = reads_start (laws g.met.D.Disk) c.args.disk.now;
      faults = omega arith;
      size = at.size;
      on_disk = subst (HasSectors g.D.Disk c.args.disk.now) (sym at.sectors) c.requires.on_disk;
      room = c.requires.room;
      text_room = c.requires.text_room;
      wrote = λ image told. (
        [],
        wrote_nothing (g.K.Sink.taken c.args.out.now),
        ap encode_lower (all_ahead c.args.size image (sectors_in c.args.place.now) c.args.len reader at.sectors at.size at.len),
      );
    }

pub returns-in_err-count-clause-told : goal.returns-in_err-count-clause-told
returns-in_err-count-clause-told g c = λ image told.
    let taken = g.K.Sink.taken in
    let was = c.loop-count.invariant.wrote image told in
    let all = encode_lower (bytes_in c.args.size image (sectors_in c.args.place.now) c.args.len) in
    let p = err_from_is_err_and c.from_residual.result c.from_residual.ensures.1 in
    told_stopped all (taken c.args.out.now) (taken c.loop-count.out) c.from_residual.result p.0 p.1
    (rw was.2 (part_of_first (taken c.args.out.now) (taken c.loop-count.out) was.0 (encode_lower (bytes_ahead image c.loop-count.reader)) (wrote_part (taken c.args.out.now) (taken c.loop-count.out) was.0 was.1)))

pub returns-then-count-eq0-clause-told : goal.returns-then-count-eq0-clause-told
returns-then-count-eq0-clause-told g c = λ image told.
    let taken = g.K.Sink.taken in
    let was = c.loop-count.invariant.wrote image told in
    let rest = bytes_ahead image c.loop-count.reader in
    let none : c.in_ok-count.count ≡ 0 = omega (arith, c.if-count-eq0.true) in
    let end = c.in_ok-count.ensures.end (ap (λ (n : ℕ). let r : Result ℕ DiskFault = Ok n in r) none) in
    all_done (taken c.args.out.now) (taken c.loop-count.out) (encode_lower (bytes_in c.args.size image (sectors_in c.args.place.now) c.args.len)) was.0 (encode_lower rest) was.1 was.2
    (no_digits rest (end.1 image))

pub returns-in_err-write_hex-clause-told : goal.returns-in_err-write_hex-clause-told
returns-in_err-write_hex-clause-told g c = λ image told.
    let taken = g.K.Sink.taken in
    let inv = c.loop-count.invariant in
    let was = inv.wrote image told in
    let all = encode_lower (bytes_in c.args.size image (sectors_in c.args.place.now) c.args.len) in
    let block = take c.in_ok-count.count c.read.new.into in
    let after = bytes_ahead image c.read.new.self in
    let step = block_digits all was.0 (bytes_ahead image c.loop-count.reader) block after was.2 (c.in_ok-count.ensures.bytes image (inv.reads.bytes ∙ told)) in
    let p = err_from_is_err_and c.from_residual-in_err-write_hex.result c.from_residual-in_err-write_hex.ensures.1 in
    told_stopped all (taken c.args.out.now) (taken c.write_hex.new.out) c.from_residual-in_err-write_hex.result p.0 p.1
    (part_more (taken c.args.out.now) (taken c.loop-count.out) (taken c.write_hex.new.out) all was.0 (encode_lower block) (encode_lower after) was.1 step c.write_hex.ensures.part)

pub returns-in_err-write_hex-clause-reads : goal.returns-in_err-write_hex-clause-reads
returns-in_err-write_hex-clause-reads g c = reads_then (laws g.met.D.Disk) c.loop-count.invariant.reads c.read.ensures.reads

pub loop-count-preserved : goal.loop-count-preserved
loop-count-preserved g c =
    let taken = g.K.Sink.taken in
    let inv = c.loop-count.invariant in
    record {
      reads = reads_then (laws g.met.D.Disk) inv.reads c.read.ensures.reads;
      faults = omega (arith, inv.faults, c.write_hex.ensures.cause.later);
      size = c.read.ensures.size_stays ∙ inv.size;
      on_disk = c.read.ensures.on_disk;
      room = omega (arith, inv.room, c.read.auto.into);
      text_room = omega (arith, inv.text_room, c.read.auto.into, c.write_hex.auto.text);
      wrote = λ image told.
          let was = inv.wrote image told in
          let all = encode_lower (bytes_in c.args.size image (sectors_in c.args.place.now) c.args.len) in
          let block = take c.in_ok-count.count c.read.new.into in
          let after = bytes_ahead image c.read.new.self in
          let step = block_digits all was.0 (bytes_ahead image c.loop-count.reader) block after was.2 (c.in_ok-count.ensures.bytes image (inv.reads.bytes ∙ told)) in
          one_more (taken c.args.out.now) (taken c.loop-count.out) (taken c.write_hex.new.out) all was.0 (encode_lower block) (encode_lower after) was.1 step
          c.in_ok-write_hex.ensures.written;
    }
