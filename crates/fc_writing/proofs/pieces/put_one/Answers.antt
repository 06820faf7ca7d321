use Rattle.std.proofs.lemmas.Result.{on_ok_weaker}
use Rattle.fc_device.proofs.DiskLaws.{laws}
use Rattle.fc_device.proofs.StopLemmas.{keeps_weaker}
use Rattle.fc_writing.proofs.ContentLemmas.{has_stored, part_stored}
use Rattle.fc_writing.proofs.pieces.put_one.Goals as goal

pub returns-clause-keeps : goal.returns-clause-keeps
returns-clause-keeps g c =
    keeps_weaker (laws g.met.D.Disk) c.store_in.ensures.keeps
    (λ was image part. part_stored c.args.size c.args.piece.now.place.items c.deref.result.now c.args.piece.now.bytes.items c.deref-2.result.now was image c.deref.ensures.value c.deref-2.ensures.value part)

pub returns-clause-written : goal.returns-clause-written
returns-clause-written g c =
    on_ok_weaker c.store_in.result
    (λ written once image told.
    has_stored c.args.size c.args.piece.now.place.items c.deref.result.now c.args.piece.now.bytes.items c.deref-2.result.now image c.deref.ensures.value c.deref-2.ensures.value once
    (λ apart. written apart image told))
    c.store_in.ensures.written
