use Rattle.std.proofs.Common.{◌++◌, ◌+◌, ◌<◌, ℕ, List, length, ap, subst, sym}
use Rattle.std.specs.Prelude.{All}
use Rattle.fc_device.proofs.DiskLaws.{laws}
use Rattle.fc_device.proofs.StopLemmas.{reads_start}
use Rattle.fc_objects.specs.Extents.{sectors_in}
use Rattle.fc_convert.proofs.BlockLemmas.{all_ahead, long_ahead}
use Rattle.fc_convert.proofs.blocks.append_place.Goals as goal

pub loop-count-init : goal.loop-count-init
loop-count-init g c =
    let reader = c.new-reader.result in
    let at = c.new-reader.ensures in
    record {
      reads = reads_start (laws g.met.D.Disk) c.args.disk.now;
      size = at.size;
      on_disk = subst (All (λ n. n < g.D.Disk.sectors c.args.disk.now)) (sym at.sectors) c.requires.on_disk;
      room = c.requires.room;
      given = λ image told. ap (λ (xs : List ℕ). c.args.into.now.items ++ xs) (all_ahead c.args.size image (sectors_in c.args.place.now) c.args.len reader at.sectors at.size at.len);
      long = ap (λ (n : ℕ). length c.args.into.now.items + n) (long_ahead c.args.size c.args.len (sectors_in c.args.place.now) reader at.sectors at.size at.len);
    }
