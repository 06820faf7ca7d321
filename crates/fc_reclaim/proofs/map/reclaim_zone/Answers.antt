use Rattle.std.proofs.Common.{◌∷◌, [], sym, subst, arith}
use Rattle.fc_device.proofs.DiskLaws.{laws}
use Rattle.fc_device.proofs.StopLemmas.{keeps_start, led}
use Rattle.fc_newmap.proofs.PassLemmas.{keeps_told}
use Rattle.fc_newmap.proofs.ComposeLemmas.{edit_all}
use Rattle.fc_newmap.specs.Map.{Map}
use Rattle.fc_reclaim.specs.Kept.{IsReadyBy}
use Rattle.fc_reclaim.proofs.KeptLemmas.{kept_same}
use Rattle.fc_reclaim.proofs.ZoneStepLemmas.{at_none, at_step, can_write, zone_keeps, zone_ready}
use Rattle.fc_reclaim.proofs.map.reclaim_zone.Goals as goal

pub returns-then-bits-eq0-clause-keeps : goal.returns-then-bits-eq0-clause-keeps
returns-then-bits-eq0-clause-keeps g c = keeps_start (laws g.met.D.Disk) (kept_same c.args.boot c.args.owners.now c.args.map.now.geometry) c.args.disk.now c.requires.settled

pub returns-then-bits-eq0-clause-ready : goal.returns-then-bits-eq0-clause-ready
returns-then-bits-eq0-clause-ready g c = λ image told.
    subst (λ (m : Map). IsReadyBy c.args.boot m c.args.owners.now image) (sym (c.reclaim_in-bits.ensures.same c.if-bits-eq0.true)) (c.requires.ready image told)

pub returns-then-bits-eq0-clause-reclaimed : goal.returns-then-bits-eq0-clause-reclaimed
returns-then-bits-eq0-clause-reclaimed g c =
    at_none c.args.boot c.args.owners.now c.args.map.now c.reclaim_in-bits.new.map c.args.z c.reclaim_in-bits.ensures.edit c.reclaim_in-bits.ensures.reclaimed (c.reclaim_in-bits.ensures.same c.if-bits-eq0.true)

pub commit_zone-requires-clause-ready : goal.commit_zone-requires-clause-ready
commit_zone-requires-clause-ready g c = λ image told.
    let a = c.args in
    let edit = c.reclaim_in-bits.ensures.edit in
    can_write a.map.now c.reclaim_in-bits.new.map (edit_all a.map.now c.reclaim_in-bits.new.map a.z edit) (a.z ∷ []) image (c.requires.ready image told).ready.copies
    (λ y low out. edit.others y (λ here. out (0, omega arith, sym here)))

pub returns-in_err-commit_zone-clause-keeps : goal.returns-in_err-commit_zone-clause-keeps
returns-in_err-commit_zone-clause-keeps g c =
    let a = c.args in
    keeps_told (laws g.met.D.Disk) c.commit_zone.ensures.keeps
    (λ was image told left. zone_keeps a.boot a.owners.now a.map.now c.reclaim_in-bits.new.map c.commit_zone.new.map a.z c.reclaim_in-bits.ensures.edit c.reclaim_in-bits.ensures.reclaimed
    c.commit_zone.ensures.runs c.commit_zone.ensures.contents was image (c.requires.ready was told) left)

pub returns-clause-keeps : goal.returns-clause-keeps
returns-clause-keeps g c =
    let a = c.args in
    keeps_told (laws g.met.D.Disk) c.commit_zone.ensures.keeps
    (λ was image told left. zone_keeps a.boot a.owners.now a.map.now c.reclaim_in-bits.new.map c.commit_zone.new.map a.z c.reclaim_in-bits.ensures.edit c.reclaim_in-bits.ensures.reclaimed
    c.commit_zone.ensures.runs c.commit_zone.ensures.contents was image (c.requires.ready was told) left)

pub returns-clause-ready : goal.returns-clause-ready
returns-clause-ready g c = λ image is_now.
    let a = c.args in
    let before = led (laws g.met.D.Disk) c.commit_zone.ensures.keeps image is_now in
    zone_ready a.boot a.owners.now a.map.now c.reclaim_in-bits.new.map c.commit_zone.new.map a.z c.reclaim_in-bits.ensures.edit c.reclaim_in-bits.ensures.reclaimed
    c.commit_zone.ensures.runs c.commit_zone.ensures.contents before.0 image (c.requires.ready before.0 before.1) (c.in_ok-commit_zone.ensures.ends before.0 before.1 image is_now)

pub returns-clause-reclaimed : goal.returns-clause-reclaimed
returns-clause-reclaimed g c =
    let a = c.args in
    at_step a.boot a.owners.now a.map.now c.reclaim_in-bits.new.map c.commit_zone.new.map a.z c.reclaim_in-bits.ensures.edit c.reclaim_in-bits.ensures.reclaimed
    c.commit_zone.ensures.runs c.commit_zone.ensures.contents
