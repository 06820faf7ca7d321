use Rattle.std.proofs.lemmas.Result.{on_ok_weaker}
use Rattle.fc_device.proofs.DiskLaws.{laws}
use Rattle.fc_compact.proofs.GoneLemmas.{gone_keeps, gone_start, gone_then, kept_err}
use Rattle.fc_compact.proofs.PacksLemmas.{packs_then}
use Rattle.fc_compact.proofs.compaction.join_and_settle.Goals as goal

pub returns-in_err-join_pass-clause-keeps : goal.returns-in_err-join_pass-clause-keeps
returns-in_err-join_pass-clause-keeps g c = kept_err c.args.owners.now c.args.disk.now c.join_pass.new.disk c.args.map.now c.join_pass.new.map _ c.from_residual.result c.from_residual.ensures.0 c.in_err-join_pass.ensures.keeps

pub settle_all-requires : goal.settle_all-requires
settle_all-requires g c = record { stands = c.in_ok-join_pass.ensures.keeps.stands }

pub returns-clause-keeps : goal.returns-clause-keeps
returns-clause-keeps g c =
    let d = laws g.met.D.Disk in
    let law = c.laws.ensures in
    let m = c.args.map.now in
    let owners = c.args.owners.now in
    let ok = c.in_ok-join_pass.ensures in
    let once = gone_then d law owners c.args.disk.now m c.args.disk.now m (gone_start d law owners c.args.disk.now m c.is_map.ensures c.requires.stands) c.join_pass.new.disk c.join_pass.new.map _ ok.keeps ok.tries.packs in
    gone_keeps d law owners c.args.disk.now m c.join_pass.new.disk c.join_pass.new.map once c.settle_all.new.disk c.settle_all.new.map c.settle_all.result c.settle_all.ensures.keeps

pub returns-clause-packs : goal.returns-clause-packs
returns-clause-packs g c =
    on_ok_weaker c.settle_all.result
    (λ then. packs_then c.args.owners.now c.args.map.now c.join_pass.new.map c.settle_all.new.map c.in_ok-join_pass.ensures.tries.packs then)
    c.settle_all.ensures.packs
