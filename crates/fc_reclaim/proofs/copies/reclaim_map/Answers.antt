use Rattle.std.specs.Option.{ForSome}
use Rattle.fc_device.proofs.DiskLaws.{laws}
use Rattle.fc_device.proofs.StopLemmas.{keeps_weaker}
use Rattle.std.proofs.lemmas.Result.{IfOk-weaker}
use Rattle.fc_reclaim.specs.Reclaiming.{HasReclaimed, ReclaimsMap}
use Rattle.fc_reclaim.proofs.CopiesLemmas.{leaves_owned, reclaims_map, told_keeps}
use Rattle.fc_reclaim.proofs.copies.reclaim_map.Goals as goal

pub returns-clause-owned : goal.returns-clause-owned
returns-clause-owned g c = keeps_weaker (laws g.met.D.Disk) c.reclaim_runs.ensures.keeps (λ was image keeps. leaves_owned c.args.map.now c.args.owners.now was image keeps)

pub returns-clause-frame : goal.returns-clause-frame
returns-clause-frame g c = keeps_weaker (laws g.met.D.Disk) c.reclaim_runs.ensures.keeps (λ was image keeps. keeps.frame)

pub returns-clause-reclaimed : goal.returns-clause-reclaimed
returns-clause-reclaimed g c =
    let a = c.args in
    let new = c.reclaim_runs.new in
    IfOk-weaker c.reclaim_runs.result (HasReclaimed g.D.Disk a.disk.now new.disk a.map.now new.map a.owners.now)
    (λ bytes. ForSome (g.D.Disk.bytes a.disk.now) (λ was. ForSome (g.D.Disk.bytes new.disk) (ReclaimsMap a.map.now new.map a.owners.now bytes was)))
    (λ bytes done was told_was image told.
    reclaims_map done.boot a.map.now new.map a.owners.now bytes was image (done.fits was told_was) (told_keeps (laws g.met.D.Disk) c.reclaim_runs.ensures.keeps was image told_was told) done.map
    (done.ready image told) done.given)
    c.reclaim_runs.ensures.done
