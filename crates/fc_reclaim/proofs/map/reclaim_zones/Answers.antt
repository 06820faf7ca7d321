use Rattle.std.proofs.Common.{◌≡◌, ◌<◌, ◌≤◌, ◌+◌, List, ap, ap₂, sym, subst, ◌∙◌, arith}
use Rattle.fc_device.proofs.DiskLaws.{laws}
use Rattle.fc_record.specs.declared.Geometry.{Geometry}
use Rattle.fc_record.specs.Record.{end_bit, first_bit}
use Rattle.fc_zone.specs.declared.Run.{Run}
use Rattle.fc_newmap.specs.Map.{bits_in, runs_of}
use Rattle.fc_newmap.proofs.HeldLemmas.{end_within, geometry_facts, on_disc, sector_high}
use Rattle.fc_reclaim.specs.Lost.{goes_back}
use Rattle.fc_reclaim.specs.Map.{IsReclaimedBelow, bits_below}
use Rattle.fc_reclaim.specs.Zone.{going}
use Rattle.fc_reclaim.proofs.GoneLemmas.{gone_keeps, gone_on_disk, gone_size, gone_start, gone_then, gone_zone}
use Rattle.fc_reclaim.proofs.ZoneStepLemmas.{bits_more, fits_more}
use Rattle.fc_reclaim.proofs.map.reclaim_zones.Goals as goal

pub reclaim_zone-requires-clause-attached : goal.reclaim_zone-requires-clause-attached
reclaim_zone-requires-clause-attached g c = c.loop-z.invariant.form.attached_stays ∙ c.requires.attached

pub reclaim_zone-requires-clause-settled : goal.reclaim_zone-requires-clause-settled
reclaim_zone-requires-clause-settled g c = c.loop-z.invariant.settled

pub reclaim_zone-requires-clause-size : goal.reclaim_zone-requires-clause-size
reclaim_zone-requires-clause-size g c = gone_size c.args.boot c.args.owners.now c.args.disk.now c.args.map.now c.loop-z.disk c.loop-z.map c.loop-z.z c.loop-z.total c.loop-z.invariant c.requires.size

pub reclaim_zone-requires-clause-on_disk : goal.reclaim_zone-requires-clause-on_disk
reclaim_zone-requires-clause-on_disk g c = gone_on_disk c.args.boot c.args.owners.now c.args.disk.now c.args.map.now c.loop-z.disk c.loop-z.map c.loop-z.z c.loop-z.total c.loop-z.invariant c.requires.on_disk

pub reclaim_zone-requires-clause-zone : goal.reclaim_zone-requires-clause-zone
reclaim_zone-requires-clause-zone g c =
    gone_zone c.args.boot c.args.owners.now c.args.disk.now c.args.map.now c.loop-z.disk c.loop-z.map c.loop-z.z c.loop-z.total c.loop-z.invariant c.loop-z.z
    (omega (arith, c.loop-z-test.true, ap (λ (h : Geometry). h.zones) c.geometry.ensures.value))

pub reclaim_zone-requires-clause-ready : goal.reclaim_zone-requires-clause-ready
reclaim_zone-requires-clause-ready g c = c.loop-z.invariant.ready

pub loop-z-init : goal.loop-z-init
loop-z-init g c = gone_start (laws g.met.D.Disk) c.args.boot c.args.owners.now c.args.disk.now c.args.map.now c.is_map.ensures c.requires.ready c.requires.settled

pub returns-in_err-reclaim_zone-clause-keeps : goal.returns-in_err-reclaim_zone-clause-keeps
returns-in_err-reclaim_zone-clause-keeps g c =
    gone_keeps (laws g.met.D.Disk) c.args.boot c.args.owners.now c.args.disk.now c.args.map.now c.loop-z.disk c.loop-z.map c.loop-z.z c.loop-z.total c.loop-z.invariant c.reclaim_zone.new.disk c.reclaim_zone.ensures.keeps

pub loop-z-preserved : goal.loop-z-preserved
loop-z-preserved g c =
    let a = c.args in
    let was = c.loop-z.invariant in
    let ok = c.in_ok-reclaim_zone.ensures in
    let low : c.loop-z.z < a.map.now.geometry.zones = omega (arith, c.loop-z-test.true, ap (λ (h : Geometry). h.zones) c.geometry.ensures.value) in
    let count : c.from.result ≡ bits_in (going (goes_back a.boot a.owners.now a.map.now.geometry) c.loop-z.z (runs_of a.map.now c.loop-z.z)) =
    c.from.ensures ∙ ok.bits
    ∙ ap₂ (λ (h : Geometry) (rs : List Run). bits_in (going (goes_back a.boot a.owners.now h) c.loop-z.z rs)) was.below.geometry (was.below.later c.loop-z.z (omega arith)) in
    let short : first_bit c.loop-z.z + c.from.result ≤ end_bit a.map.now.geometry c.loop-z.z =
    subst (λ (h : Geometry). first_bit c.loop-z.z + c.from.result ≤ end_bit h c.loop-z.z) was.below.geometry (omega (arith, ok.short, c.from.ensures)) in
    gone_then (laws g.met.D.Disk) a.boot a.owners.now a.disk.now a.map.now c.loop-z.disk c.loop-z.map c.loop-z.z c.loop-z.total was c.reclaim_zone.new.disk c.reclaim_zone.new.map c.from.result low
    ok.keeps ok.form ok.ready ok.durable ok.reclaimed (bits_more a.boot a.owners.now a.map.now c.loop-z.z c.from.result count)
    (fits_more a.map.now c.loop-z.z c.loop-z.total c.from.result c.is_map.ensures low was.fits short) c.reclaim_zone.ensures.cause.later

pub overflow_add-total : goal.overflow_add-total
overflow_add-total g c =
    let a = c.args in
    let low : c.loop-z.z < a.map.now.geometry.zones = omega (arith, c.loop-z-test.true, ap (λ (h : Geometry). h.zones) c.geometry.ensures.value) in
    let fits = c.loop-z.invariant.fits.within low in
    let disc = on_disc a.map.now.geometry c.loop-z.z c.is_map.ensures.of_record low in
    let most = (geometry_facts a.map.now.geometry c.is_map.ensures.of_record).bits in
    let short = c.in_ok-reclaim_zone.ensures.short in
    let high : end_bit c.loop-z.map.geometry c.loop-z.z ≤ 8192 =
    (let few = end_within c.loop-z.map.geometry c.loop-z.z c.loop-z.invariant.below.map.of_record (subst (λ (h : Geometry). c.loop-z.z < h.zones) (sym c.loop-z.invariant.below.geometry) low) in
    let size = sector_high c.loop-z.map.geometry (geometry_facts c.loop-z.map.geometry c.loop-z.invariant.below.map.of_record) in omega (arith, few, size)) in
    omega (arith, fits, disc, most, short, high, c.from.ensures)

pub returns-clause-reclaimed : goal.returns-clause-reclaimed
returns-clause-reclaimed g c =
    let e : c.loop-z.z ≡ c.args.map.now.geometry.zones = omega (arith, c.loop-z-test.false, c.loop-z.auto.z-end, ap (λ (h : Geometry). h.zones) c.geometry.ensures.value) in
    subst (IsReclaimedBelow c.args.boot c.args.owners.now c.args.map.now c.loop-z.map) e c.loop-z.invariant.below

pub returns-clause-bits : goal.returns-clause-bits
returns-clause-bits g c =
    let e : c.loop-z.z ≡ c.args.map.now.geometry.zones = omega (arith, c.loop-z-test.false, c.loop-z.auto.z-end, ap (λ (h : Geometry). h.zones) c.geometry.ensures.value) in
    (c.loop-z.invariant.total_is ∙ ap (bits_below c.args.boot c.args.owners.now c.args.map.now) e, c.loop-z.invariant.fits.whole e)
