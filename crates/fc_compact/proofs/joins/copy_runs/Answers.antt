use Rattle.std.proofs.Common.{◌≡◌, ◌++◌, ◌∷◌, [], ℕ, List, append_assoc, append-nil, refl, ap, sym, subst, ◌∙◌, arith}
use Rattle.fc_device.proofs.DiskLaws.{laws, form_same, form_then}
use Rattle.fc_device.proofs.StopLemmas.{keeps_same, keeps_start}
use Rattle.fc_device.specs.Calls.{StopsAndExitsLeave}
use Rattle.fc_record.specs.declared.Geometry.{Geometry}
use Rattle.fc_newmap.specs.Map.{ZoneRun, first_sector, id_runs, sector_count, sectors_of}
use Rattle.fc_compact.specs.Copy.{ChangesHoles, ChangesRow, IsCopied}
use Rattle.fc_compact.specs.Joins.{ArePut}
use Rattle.fc_compact.proofs.GoneLemmas.{cause_then, kept, kept_err}
use Rattle.fc_compact.proofs.RowLemmas.{holes_none, kept_preserves, kept_ready, kept_torn, torn_led}
use Rattle.fc_compact.proofs.JoinLemmas.{NextRow, next_row}
use Rattle.fc_compact.proofs.joins.copy_runs.Given.{Over}
use Rattle.fc_compact.proofs.joins.copy_runs.Goals as goal
use Rattle.fc_compact.proofs.joins.copy_runs.Goals.{After-copy_row, After-extent_of-from, After-sync}

next : (g : Over) (c : After-extent_of-from g)
    → NextRow c.args.map.now c.args.to c.loop-z.at c.extent_of-from.result.first c.extent_of-from.result.sectors c.loop-z.invariant.passed (c.in-Some.z, c.in-Some.run')
next g c =
    let m = c.args.map.now in
    let was = c.loop-z.invariant in
    let p : ZoneRun = (c.in-Some.z, c.in-Some.run') in
    let r = c.in-Some.ensures.value was.left was.stands in
    next_row m c.geometry.ensures.map c.args.id was.passed r.0 p (was.cut ∙ ap (λ (ps : List ZoneRun). was.passed ++ ps) r.1.0) c.args.to c.requires.hole c.loop-z.at c.extent_of-from.result.first c.extent_of-from.result.sectors
    (ap (λ e. e.first) c.extent_of-from.ensures ∙ ap (λ (h : Geometry). first_sector h p) c.geometry.ensures.value) (ap (λ e. e.sectors) c.extent_of-from.ensures ∙ ap (λ (h : Geometry). sector_count h p) c.geometry.ensures.value)
    was.place c.in-Some.ensures.within c.requires.to_on_disc

torn : (g : Over) (c : After-copy_row g)
    → NextRow c.args.map.now c.args.to c.loop-z.at c.extent_of-from.result.first c.extent_of-from.result.sectors c.loop-z.invariant.passed (c.in-Some.z, c.in-Some.run')
    → StopsAndExitsLeave g.D.Disk c.args.disk.now c.copy_row.new.disk (ChangesHoles c.args.map.now)
torn g c n =
    let was = c.loop-z.invariant in
    kept_torn c.args.map.now c.loop-z.at c.extent_of-from.result.sectors n.in_hole (laws g.met.D.Disk) was.form (was.form.size_stays ∙ c.requires.stands.disc.size) (omega (arith, n.room, c.requires.stands.disc.room)) was.kept c.copy_row.ensures.tears

flushed : (g : Over) (c : After-sync g) → StopsAndExitsLeave g.D.Disk c.args.disk.now c.sync.new.self (ChangesHoles c.args.map.now)
flushed g c = keeps_same (laws g.met.D.Disk) c.loop-z.invariant.kept c.sync.ensures.stops c.sync.ensures.bytes

pub loop-z-init : goal.loop-z-init
loop-z-init g c =
    let law = laws g.met.D.Disk in
    let m = c.args.map.now in
    record {
      form = form_same g.D.Disk c.args.disk.now;
      kept = keeps_start law (holes_none m) c.args.disk.now c.requires.stands.settled;
      passed = [];
      left = id_runs m c.args.id;
      cut = refl;
      stands = c.start-runs.ensures;
      place = omega arith;
      put = λ image told i lt. absurd (omega (arith, lt));
      faults = omega arith;
    }

pub copy_row-requires-clause-apart : goal.copy_row-requires-clause-apart
copy_row-requires-clause-apart g c = (next g (goal.at.copy_row-requires-clause-apart g c).After-extent_of-from).apart

pub copy_row-requires-clause-on_disk : goal.copy_row-requires-clause-on_disk
copy_row-requires-clause-on_disk g c = (let n = next g (goal.at.copy_row-requires-clause-on_disk g c).After-extent_of-from in omega (arith, n.on_disc, c.requires.stands.disc.room, c.loop-z.invariant.form.sectors_stay))

pub copy_row-requires-clause-to_on_disk : goal.copy_row-requires-clause-to_on_disk
copy_row-requires-clause-to_on_disk g c = (let n = next g (goal.at.copy_row-requires-clause-to_on_disk g c).After-extent_of-from in omega (arith, n.room, c.requires.stands.disc.room, c.loop-z.invariant.form.sectors_stay))

pub copy_row-requires-clause-fits : goal.copy_row-requires-clause-fits
copy_row-requires-clause-fits g c = (let n = next g (goal.at.copy_row-requires-clause-fits g c).After-extent_of-from in omega (arith, n.on_disc, n.high))

pub copy_row-requires-clause-to_fits : goal.copy_row-requires-clause-to_fits
copy_row-requires-clause-to_fits g c = (let n = next g (goal.at.copy_row-requires-clause-to_fits g c).After-extent_of-from in omega (arith, n.room, n.high))

pub overflow_add-at : goal.overflow_add-at
overflow_add-at g c = (let n = next g (goal.at.overflow_add-at g c).After-extent_of-from in omega (arith, n.room, n.high))

pub returns-in_err-copy_row-clause-keeps : goal.returns-in_err-copy_row-clause-keeps
returns-in_err-copy_row-clause-keeps g c =
    let a = c.args in
    let m = a.map.now in
    let was = c.loop-z.invariant in
    kept_err a.owners.now a.disk.now c.copy_row.new.disk m m _ c.from_residual.result c.from_residual.ensures.0
    (kept a.owners.now a.disk.now c.copy_row.new.disk m m c.requires.stands _ (kept_preserves (laws g.met.D.Disk) c.laws.ensures m a.owners.now c.requires.stands.ready (torn g (goal.at.returns-in_err-copy_row-clause-keeps g c).After-copy_row (next g (goal.at.returns-in_err-copy_row-clause-keeps g c).After-extent_of-from))) tt tt refl
    (form_then g.D.Disk was.form c.copy_row.ensures.form) (cause_then g.D.Disk a.disk.now c.loop-z.disk c.copy_row.new.disk _ was.faults c.in_err-copy_row.ensures.cause))

pub returns-in_err-copy_row-clause-still_ready : goal.returns-in_err-copy_row-clause-still_ready
returns-in_err-copy_row-clause-still_ready g c = kept_ready (laws g.met.D.Disk) c.laws.ensures c.args.map.now c.args.owners.now c.requires.stands.ready (torn g (goal.at.returns-in_err-copy_row-clause-still_ready g c).After-copy_row (next g (goal.at.returns-in_err-copy_row-clause-still_ready g c).After-extent_of-from))

pub returns-in_err-sync-clause-keeps : goal.returns-in_err-sync-clause-keeps
returns-in_err-sync-clause-keeps g c =
    let a = c.args in
    let m = a.map.now in
    let was = c.loop-z.invariant in
    kept_err a.owners.now a.disk.now c.sync.new.self m m _ c.from_residual-in_err-sync.result c.from_residual-in_err-sync.ensures.0
    (kept a.owners.now a.disk.now c.sync.new.self m m c.requires.stands _ (kept_preserves (laws g.met.D.Disk) c.laws.ensures m a.owners.now c.requires.stands.ready (flushed g (goal.at.returns-in_err-sync-clause-keeps g c).After-sync)) tt tt refl
    (form_then g.D.Disk was.form c.sync.ensures.form) (cause_then g.D.Disk a.disk.now c.loop-z.disk c.sync.new.self _ was.faults c.in_err-sync.ensures.cause))

pub returns-in_err-sync-clause-still_ready : goal.returns-in_err-sync-clause-still_ready
returns-in_err-sync-clause-still_ready g c = kept_ready (laws g.met.D.Disk) c.laws.ensures c.args.map.now c.args.owners.now c.requires.stands.ready (flushed g (goal.at.returns-in_err-sync-clause-still_ready g c).After-sync)

pub returns-clause-keeps : goal.returns-clause-keeps
returns-clause-keeps g c =
    let a = c.args in
    let m = a.map.now in
    let was = c.loop-z.invariant in
    let now = flushed g (goal.at.returns-clause-keeps g c).After-sync in
    kept a.owners.now a.disk.now c.sync.new.self m m c.requires.stands _ (kept_preserves (laws g.met.D.Disk) c.laws.ensures m a.owners.now c.requires.stands.ready now)
    (kept_ready (laws g.met.D.Disk) c.laws.ensures m a.owners.now c.requires.stands.ready now) c.in_ok-sync.ensures.durable refl (form_then g.D.Disk was.form c.sync.ensures.form)
    (record { later = omega (arith, was.faults, c.sync.ensures.cause.later); failed = tt })

pub returns-clause-still_ready : goal.returns-clause-still_ready
returns-clause-still_ready g c = kept_ready (laws g.met.D.Disk) c.laws.ensures c.args.map.now c.args.owners.now c.requires.stands.ready (flushed g (goal.at.returns-clause-still_ready g c).After-sync)

pub loop-z-preserved : goal.loop-z-preserved
loop-z-preserved g c =
    let m = c.args.map.now in
    let was = c.loop-z.invariant in
    let p : ZoneRun = (c.in-Some.z, c.in-Some.run') in
    let r = c.in-Some.ensures.value was.left was.stands in
    let n = next g (goal.at.loop-z-preserved g c).After-extent_of-from in
    record {
      form = form_then g.D.Disk was.form c.copy_row.ensures.form;
      kept = torn g (goal.at.loop-z-preserved g c).After-copy_row n;
      passed = was.passed ++ p ∷ [];
      left = r.0;
      cut = was.cut ∙ ap (λ (ps : List ZoneRun). was.passed ++ ps) r.1.0 ∙ sym (append_assoc was.passed (p ∷ []) r.0);
      stands = r.1.1;
      place = omega (arith, was.place, n.longer);
      put = λ image told.
          (let before = torn_led c.copy_row.ensures.tears image told in
          n.put before.0 image (was.put before.0 before.1) (subst (λ (k : ℕ). ChangesRow k c.loop-z.at c.extent_of-from.result.sectors before.0 image) (was.form.size_stays ∙ c.requires.stands.disc.size) before.2)
          (subst (λ (k : ℕ). IsCopied k c.extent_of-from.result.first c.loop-z.at c.extent_of-from.result.sectors image) (ap (λ (h : Geometry). h.sector) c.geometry.ensures.value) (c.in_ok-copy_row.ensures.copied image told)));
      faults = omega (arith, was.faults, c.copy_row.ensures.cause.later);
    }

pub returns-clause-put : goal.returns-clause-put
returns-clause-put g c = λ image told_now.
    let told = sym c.sync.ensures.bytes ∙ told_now in
    let m = c.args.map.now in
    let was = c.loop-z.invariant in
    let r = c.in_default.ensures.value was.left was.stands in
    let all : sectors_of m.geometry was.passed ≡ sectors_of m.geometry (id_runs m c.args.id) =
    ap (sectors_of m.geometry) (sym (was.cut ∙ ap (λ (ps : List ZoneRun). was.passed ++ ps) r.0 ∙ append-nil was.passed)) in
    subst (λ (xs : List ℕ). ArePut m.geometry.sector c.args.to xs image) all (was.put image told)
