use Rattle.std.proofs.Common.{refl, arith}
use Rattle.fc_device.proofs.DiskLaws.{laws, form_same, form_then}
use Rattle.fc_device.proofs.StopLemmas.{keeps_same, keeps_start}
use Rattle.fc_compact.proofs.GoneLemmas.{cause_then, kept, kept_err}
use Rattle.fc_compact.proofs.RowLemmas.{holes_none, kept_preserves, kept_ready, kept_torn}
use Rattle.fc_compact.proofs.copy.copy_into.Goals as goal

pub returns-in_err-copy_row-clause-keeps : goal.returns-in_err-copy_row-clause-keeps
returns-in_err-copy_row-clause-keeps g c =
    let law = laws g.met.D.Disk in
    let a = c.args in
    let m = a.map.now in
    let stands = c.requires.stands in
    let start = keeps_start law (holes_none m) a.disk.now stands.settled in
    let torn = kept_torn m a.to a.count c.requires.hole law (form_same g.D.Disk a.disk.now) stands.disc.size c.requires.to_on_disk start c.copy_row.ensures.tears in
    kept_err a.owners.now a.disk.now c.copy_row.new.disk m m _ c.from_residual.result c.from_residual.ensures.0
    (kept a.owners.now a.disk.now c.copy_row.new.disk m m stands _ (kept_preserves law c.laws.ensures m a.owners.now stands.ready torn) tt tt refl c.copy_row.ensures.form c.in_err-copy_row.ensures.cause)

pub returns-in_err-copy_row-clause-still_ready : goal.returns-in_err-copy_row-clause-still_ready
returns-in_err-copy_row-clause-still_ready g c =
    let law = laws g.met.D.Disk in
    let a = c.args in
    let m = a.map.now in
    let stands = c.requires.stands in
    let start = keeps_start law (holes_none m) a.disk.now stands.settled in
    kept_ready law c.laws.ensures m a.owners.now stands.ready
    (kept_torn m a.to a.count c.requires.hole law (form_same g.D.Disk a.disk.now) stands.disc.size c.requires.to_on_disk start c.copy_row.ensures.tears)

pub returns-in_err-sync-clause-keeps : goal.returns-in_err-sync-clause-keeps
returns-in_err-sync-clause-keeps g c =
    let law = laws g.met.D.Disk in
    let a = c.args in
    let m = a.map.now in
    let stands = c.requires.stands in
    let start = keeps_start law (holes_none m) a.disk.now stands.settled in
    let torn = kept_torn m a.to a.count c.requires.hole law (form_same g.D.Disk a.disk.now) stands.disc.size c.requires.to_on_disk start c.copy_row.ensures.tears in
    kept_err a.owners.now a.disk.now c.sync.new.self m m _ c.from_residual-in_err-sync.result c.from_residual-in_err-sync.ensures.0
    (kept a.owners.now a.disk.now c.sync.new.self m m stands _ (kept_preserves law c.laws.ensures m a.owners.now stands.ready (keeps_same law torn c.sync.ensures.stops c.sync.ensures.bytes)) tt tt refl
    (form_then g.D.Disk c.copy_row.ensures.form c.sync.ensures.form) (cause_then g.D.Disk a.disk.now c.copy_row.new.disk c.sync.new.self _ c.copy_row.ensures.cause.later c.in_err-sync.ensures.cause))

pub returns-in_err-sync-clause-still_ready : goal.returns-in_err-sync-clause-still_ready
returns-in_err-sync-clause-still_ready g c =
    let law = laws g.met.D.Disk in
    let a = c.args in
    let m = a.map.now in
    let stands = c.requires.stands in
    let start = keeps_start law (holes_none m) a.disk.now stands.settled in
    let torn = kept_torn m a.to a.count c.requires.hole law (form_same g.D.Disk a.disk.now) stands.disc.size c.requires.to_on_disk start c.copy_row.ensures.tears in
    kept_ready law c.laws.ensures m a.owners.now stands.ready (keeps_same law torn c.sync.ensures.stops c.sync.ensures.bytes)

pub returns-clause-keeps : goal.returns-clause-keeps
returns-clause-keeps g c =
    let law = laws g.met.D.Disk in
    let a = c.args in
    let m = a.map.now in
    let stands = c.requires.stands in
    let start = keeps_start law (holes_none m) a.disk.now stands.settled in
    let torn = kept_torn m a.to a.count c.requires.hole law (form_same g.D.Disk a.disk.now) stands.disc.size c.requires.to_on_disk start c.copy_row.ensures.tears in
    let flushed = keeps_same law torn c.sync.ensures.stops c.sync.ensures.bytes in
    kept a.owners.now a.disk.now c.sync.new.self m m stands _ (kept_preserves law c.laws.ensures m a.owners.now stands.ready flushed) (kept_ready law c.laws.ensures m a.owners.now stands.ready flushed)
    c.in_ok-sync.ensures.durable refl (form_then g.D.Disk c.copy_row.ensures.form c.sync.ensures.form)
    (record { later = (let copied = c.copy_row.ensures.cause.later in let synced = c.sync.ensures.cause.later in omega (arith, copied, synced)); failed = tt })

pub returns-clause-still_ready : goal.returns-clause-still_ready
returns-clause-still_ready g c =
    let law = laws g.met.D.Disk in
    let a = c.args in
    let m = a.map.now in
    let stands = c.requires.stands in
    let start = keeps_start law (holes_none m) a.disk.now stands.settled in
    let torn = kept_torn m a.to a.count c.requires.hole law (form_same g.D.Disk a.disk.now) stands.disc.size c.requires.to_on_disk start c.copy_row.ensures.tears in
    kept_ready law c.laws.ensures m a.owners.now stands.ready (keeps_same law torn c.sync.ensures.stops c.sync.ensures.bytes)
