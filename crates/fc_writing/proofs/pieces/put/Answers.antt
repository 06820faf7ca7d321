use Rattle.std.proofs.Common.{All, ◌<◌, ℕ, [], sym, subst, arith}
use Rattle.std.specs.List.{flat_map}
use Rattle.fc_device.proofs.DiskLaws.{form_then, laws}
use Rattle.fc_device.proofs.StopLemmas.{keeps_then, keeps_weaker, led}
use Rattle.fc_writing.specs.Ready.{content_of, place_of}
use Rattle.fc_writing.proofs.ContentLemmas.{part_on, part_wider}
use Rattle.fc_writing.proofs.ListLemmas.{all_one, flat_has, has_more, once_one, piece_sectors}
use Rattle.fc_writing.proofs.pieces.put.Goals as goal

pub put_one-requires-clause-on_disk : goal.put_one-requires-clause-on_disk
put_one-requires-clause-on_disk g c =
    subst (λ (n : ℕ). All (λ s. s < n) (place_of c.piece-item.result)) (sym c.loop-piece.invariant.form.sectors_stay)
    (all_one place_of c.args.pieces.now c.loop-piece.piece-index c.piece-item.result c.loop-piece-test.true c.piece-item.is (λ s. s < g.D.Disk.sectors c.args.disk.now) c.requires.on_disk)

pub returns-in_err-put_one-clause-keeps : goal.returns-in_err-put_one-clause-keeps
returns-in_err-put_one-clause-keeps g c =
    let pieces = c.args.pieces.now in
    let piece = c.piece-item.result in
    let size = c.args.size in
    keeps_then (laws g.met.D.Disk) (λ a b e first second. part_on size [] (flat_map (content_of size) pieces) a b e first second) c.loop-piece.invariant.keeps
    (keeps_weaker (laws g.met.D.Disk) c.put_one.ensures.keeps
    (λ a b part. part_wider size [] [] (content_of size piece) (flat_map (content_of size) pieces) a b (λ s out. out)
    (flat_has (content_of size) pieces c.loop-piece.piece-index piece c.loop-piece-test.true c.piece-item.is) part))

pub loop-piece-preserved : goal.loop-piece-preserved
loop-piece-preserved g c =
    let law = laws g.met.D.Disk in
    let inv = c.loop-piece.invariant in
    let pieces = c.args.pieces.now in
    let piece = c.piece-item.result in
    let i = c.loop-piece.piece-index in
    let low = c.loop-piece-test.true in
    let size = c.args.size in
    record {
      form = form_then g.D.Disk inv.form c.put_one.ensures.form;
      settled = c.in_ok-put_one.ensures.durable;
      keeps = keeps_then law (λ a b e first second. part_on size [] (flat_map (content_of size) pieces) a b e first second) inv.keeps
          (keeps_weaker law c.put_one.ensures.keeps
          (λ a b part. part_wider size [] [] (content_of size piece) (flat_map (content_of size) pieces) a b (λ s out. out) (flat_has (content_of size) pieces i piece low c.piece-item.is) part));
      written = λ image is.
          (let mid = led law c.put_one.ensures.keeps image is in
          has_more place_of pieces i piece low c.piece-item.is (content_of size) (piece_sectors size) size mid.0 image c.requires.once (inv.written mid.0 mid.1) mid.2
          (c.in_ok-put_one.ensures.written (once_one place_of pieces i piece low c.piece-item.is c.requires.once) image is));
      faults = omega (arith, inv.faults, c.put_one.ensures.cause.later);
    }
