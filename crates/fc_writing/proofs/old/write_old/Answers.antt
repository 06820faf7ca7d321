use Rattle.std.proofs.Common.{ℕ, sym, subst}
use Rattle.std.proofs.lemmas.Result.{on_ok_weaker}
use Rattle.fc_device.proofs.DiskLaws.{laws}
use Rattle.fc_device.proofs.StopLemmas.{keeps_weaker}
use Rattle.fc_newmap.proofs.PassLemmas.{keeps_on}
use Rattle.fc_writing.specs.Old.{CanWrite}
use Rattle.fc_writing.proofs.OldLemmas.{old_done, old_early, old_late}
use Rattle.fc_writing.proofs.old.write_old.Goals as goal

pub returns-in_err-write_early-clause-keeps : goal.returns-in_err-write_early-clause-keeps
returns-in_err-write_early-clause-keeps g c = keeps_weaker (laws g.met.D.Disk) c.write_early.ensures.keeps (λ was image leaves. old_early c.args.map.now c.args.ready.now c.args.bytes.now was image leaves)

pub write_late-requires-clause-can : goal.write_late-requires-clause-can
write_late-requires-clause-can g c = subst (λ (n : ℕ). CanWrite n c.args.map.now c.args.ready.now) (sym c.write_early.ensures.form.sectors_stay) c.requires.can

pub returns-clause-keeps : goal.returns-clause-keeps
returns-clause-keeps g c =
    keeps_on (laws g.met.D.Disk) c.write_early.ensures.keeps c.write_late.ensures.keeps
    (λ was image told leaves. old_early c.args.map.now c.args.ready.now c.args.bytes.now was image leaves)
    (λ was there image told told_mid first leaves.
    old_late c.args.map.now c.write_early.ensures.units (g.D.Disk.sectors c.args.disk.now) c.args.ready.now c.args.bytes.now c.requires.can.put was there (c.in_ok-write_early.ensures.taken was told there told_mid) image leaves)

pub returns-clause-done : goal.returns-clause-done
returns-clause-done g c =
    on_ok_weaker c.write_late.result
    (λ given was told image is.
    let first = c.write_early.ensures.keeps.exit was told in
    old_done c.args.map.now c.write_early.ensures.units (g.D.Disk.sectors c.args.disk.now) c.args.ready.now c.args.bytes.now c.requires.can.put was first.0 (c.in_ok-write_early.ensures.taken was told first.0 first.1) image
    (given first.0 first.1 image is))
    c.write_late.ensures.given
