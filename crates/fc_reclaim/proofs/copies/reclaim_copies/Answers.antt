use Rattle.fc_device.proofs.DiskLaws.{laws}
use Rattle.fc_device.proofs.StopLemmas.{keeps_then, led}
use Rattle.fc_newmap.proofs.PassLemmas.{keeps_told}
use Rattle.fc_reclaim.proofs.KeptLemmas.{kept_then}
use Rattle.fc_reclaim.proofs.CopiesLemmas.{matched_keeps, matched_ready}
use Rattle.fc_reclaim.proofs.copies.reclaim_copies.Goals as goal

pub match_copies-requires-clause-known : goal.match_copies-requires-clause-known
match_copies-requires-clause-known g c = λ image told. (c.requires.ready image told).copies_are

pub returns-in_err-match_copies-clause-keeps : goal.returns-in_err-match_copies-clause-keeps
returns-in_err-match_copies-clause-keeps g c =
    let a = c.args in
    keeps_told (laws g.met.D.Disk) c.match_copies.ensures.keeps
    (λ was image told left. matched_keeps a.boot a.owners.now a.map.now c.is_map.ensures a.which was image (c.requires.ready was told) (left (c.requires.ready was told).copies_are))

pub reclaim_zones-requires-clause-ready : goal.reclaim_zones-requires-clause-ready
reclaim_zones-requires-clause-ready g c = λ image told.
    let a = c.args in
    let was = led (laws g.met.D.Disk) c.match_copies.ensures.keeps image told in
    let can = c.requires.ready was.0 was.1 in
    matched_ready a.boot a.owners.now a.map.now c.is_map.ensures a.which was.0 image can (was.2 can.copies_are) (c.requires.boot was.0 was.1) (c.in_ok-match_copies.ensures.equal image told)

pub returns-clause-keeps : goal.returns-clause-keeps
returns-clause-keeps g c =
    let a = c.args in
    keeps_then (laws g.met.D.Disk) (kept_then a.boot a.owners.now a.map.now.geometry)
    (keeps_told (laws g.met.D.Disk) c.match_copies.ensures.keeps
    (λ was image told left. matched_keeps a.boot a.owners.now a.map.now c.is_map.ensures a.which was image (c.requires.ready was told) (left (c.requires.ready was told).copies_are)))
    c.reclaim_zones.ensures.keeps
