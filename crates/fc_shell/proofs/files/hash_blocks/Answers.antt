use Rattle.std.proofs.Common.{◌∙◌, ◌++◌, [], ℕ, List, take, ap, subst, sym, arith}
use Rattle.fc_device.proofs.DiskLaws.{laws}
use Rattle.fc_device.proofs.StopLemmas.{reads_start, reads_then}
use Rattle.fc_image.specs.Layout.{bytes_in}
use Rattle.fc_objects.specs.Bytes.{bytes_ahead}
use Rattle.fc_objects.specs.Extents.{sectors_in}
use Rattle.fc_shell.specs.Readable.{HasSectors}
use Rattle.fc_shell.proofs.BlockLemmas.{all_ahead}
use Rattle.fc_shell.proofs.HashLemmas.{fed_more}
use Rattle.fc_shell.proofs.files.hash_blocks.Goals as goal

pub loop-count-init : goal.loop-count-init
loop-count-init g c =
    let reader = c.new-reader.result in
    let at = c.new-reader.ensures in
    record {
      reads = reads_start (laws g.met.D.Disk) c.args.disk.now;
      size = at.size;
      on_disk = subst (HasSectors g.D.Disk c.args.disk.now) (sym at.sectors) c.requires.on_disk;
      room = c.requires.room;
      given = λ image told. ([], c.new-hasher.ensures, all_ahead c.args.size image (sectors_in c.args.place.now) c.args.len reader at.sectors at.size at.len);
    }

pub returns-in_err-count-clause-reads : goal.returns-in_err-count-clause-reads
returns-in_err-count-clause-reads g c = reads_then (laws g.met.D.Disk) c.loop-count.invariant.reads c.read.ensures.reads

pub returns-then-count-eq0-clause-reads : goal.returns-then-count-eq0-clause-reads
returns-then-count-eq0-clause-reads g c = reads_then (laws g.met.D.Disk) c.loop-count.invariant.reads c.read.ensures.reads

pub loop-count-preserved : goal.loop-count-preserved
loop-count-preserved g c =
    let inv = c.loop-count.invariant in
    record {
      reads = reads_then (laws g.met.D.Disk) inv.reads c.read.ensures.reads;
      size = c.read.ensures.size_stays ∙ inv.size;
      on_disk = c.read.ensures.on_disk;
      room = omega (arith, inv.room, c.read.auto.into);
      given = λ image told.
          let was = inv.given image told in
          let all = bytes_in c.args.size image (sectors_in c.args.place.now) c.args.len in
          let block = take c.in_ok-count.count c.read.new.into in
          let after = bytes_ahead image c.read.new.self in
          fed_more c.update.new.self [] all was.0 block after (c.update.ensures was.0 was.1)
          (was.2 ∙ ap (λ (xs : List ℕ). was.0 ++ xs) (c.in_ok-count.ensures.bytes image (inv.reads.bytes ∙ told)));
    }
