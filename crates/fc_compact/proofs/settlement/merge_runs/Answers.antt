use Rattle.std.proofs.Common.{◌∷◌, [], sym, arith}
use Rattle.std.proofs.lemmas.Result.{on_ok_weaker}
use Rattle.fc_device.proofs.DiskLaws.{laws}
use Rattle.fc_device.proofs.StopLemmas.{led}
use Rattle.fc_newmap.proofs.PassLemmas.{keeps_told}
use Rattle.fc_newmap.proofs.ComposeLemmas.{edit_all}
use Rattle.fc_compact.proofs.GoneLemmas.{kept}
use Rattle.fc_compact.proofs.KeptLemmas.{can_write, committed_geometry}
use Rattle.fc_compact.proofs.MergeLemmas.{merge_cut, merge_others, merge_packs, merge_preserves, merge_ready}
use Rattle.fc_compact.proofs.settlement.merge_runs.Goals as goal

pub commit_zone-requires-clause-ready : goal.commit_zone-requires-clause-ready
commit_zone-requires-clause-ready g c = λ image told.
    let a = c.args in
    let edit = c.merge.ensures.edit in
    can_write a.map.now c.merge.new.self (edit_all a.map.now c.merge.new.self a.z edit) (a.z ∷ []) image (c.requires.stands.ready image told).copies (λ y low out. edit.others y (λ here. out (0, omega arith, sym here)))

pub returns-clause-keeps : goal.returns-clause-keeps
returns-clause-keeps g c =
    let a = c.args in
    let m = a.map.now in
    let n = c.merge.new.self in
    let last = c.commit_zone.new.map in
    let is = c.is_map.ensures in
    let edit = c.merge.ensures.edit in
    let merged = c.merge.ensures.runs in
    let runs = c.commit_zone.ensures.runs in
    let contents = c.commit_zone.ensures.contents in
    let law = laws g.met.D.Disk in
    let ready = c.requires.stands.ready in
    kept a.owners.now a.disk.now c.commit_zone.new.disk m last c.requires.stands c.commit_zone.result
    (keeps_told law c.commit_zone.ensures.keeps (λ was image told left. merge_preserves c.laws.ensures m n last a.owners.now is a.z a.one a.two c.requires.runs edit merged runs contents was (ready was told) image left))
    (on_ok_weaker c.commit_zone.result
    (λ ends image is_now.
    let before = led law c.commit_zone.ensures.keeps image is_now in
    merge_ready c.laws.ensures m n last a.owners.now is a.z a.one a.two c.requires.runs edit merged runs contents before.0 (ready before.0 before.1) image (ends before.0 before.1 image is_now))
    c.commit_zone.ensures.ends)
    c.commit_zone.ensures.durable (committed_geometry m n last (edit_all m n a.z edit) runs contents) c.commit_zone.ensures.form c.commit_zone.ensures.cause

pub returns-clause-packs : goal.returns-clause-packs
returns-clause-packs g c =
    let a = c.args in
    on_ok_weaker c.commit_zone.result (λ done. merge_packs c.laws.ensures a.map.now c.merge.new.self c.commit_zone.new.map a.owners.now c.is_map.ensures a.z a.one a.two c.requires.runs c.merge.ensures.edit c.merge.ensures.runs c.commit_zone.ensures.runs c.commit_zone.ensures.contents) c.commit_zone.ensures.durable

pub returns-clause-runs : goal.returns-clause-runs
returns-clause-runs g c =
    let a = c.args in
    on_ok_weaker c.commit_zone.result (λ done front rest was. merge_cut c.laws.ensures a.map.now c.merge.new.self c.commit_zone.new.map a.owners.now c.is_map.ensures a.z a.one a.two c.requires.runs c.merge.ensures.edit c.merge.ensures.runs c.commit_zone.ensures.runs c.commit_zone.ensures.contents front rest was) c.commit_zone.ensures.durable

pub returns-clause-others : goal.returns-clause-others
returns-clause-others g c =
    let a = c.args in
    on_ok_weaker c.commit_zone.result (λ done y other. merge_others c.laws.ensures a.map.now c.merge.new.self c.commit_zone.new.map a.owners.now c.is_map.ensures a.z a.one a.two c.requires.runs c.merge.ensures.edit c.merge.ensures.runs c.commit_zone.ensures.runs c.commit_zone.ensures.contents y other) c.commit_zone.ensures.durable
