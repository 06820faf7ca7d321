use Rattle.std.proofs.Common.{◌<◌, length, ap, sym, subst, ◌∙◌, arith, IsFalse}
use Rattle.std.specs.Prelude.{All}
use Rattle.std.specs.Option.{ForSome}
use Rattle.std.proofs.lemmas.Bool.{eqb-false, eqb-true}
use Rattle.fc_device.specs.Calls.{SameForm, StopsAndExitsLeave}
use Rattle.fc_device.proofs.DiskLaws.{laws, form_then}
use Rattle.fc_device.proofs.StopLemmas.{keeps_same, keeps_then, led}
use Rattle.fc_record.specs.declared.Geometry.{Geometry}
use Rattle.fc_newmap.specs.Map.{Map, runs_of}
use Rattle.fc_newmap.specs.Committing.{TakesCopies}
use Rattle.fc_newmap.proofs.PassLemmas.{keeps_told}
use Rattle.fc_compact.specs.Copy.{ChangesHoles}
use Rattle.fc_compact.specs.Rounds.{Carrying}
use Rattle.fc_compact.specs.Steps.{Packs, Preserves}
use Rattle.fc_compact.specs.Ready.{IsReady}
use Rattle.fc_compact.proofs.DrawnLemmas.{no_numbers, some_numbers, zones_can, zones_fall, zones_less, zones_others, zones_packs, zones_preserve, zones_ready}
use Rattle.fc_compact.proofs.GoneLemmas.{cause_then, kept, kept_err}
use Rattle.fc_compact.proofs.PreservesLemmas.{preserves_then}
use Rattle.fc_compact.proofs.RowLemmas.{kept_preserves, kept_ready}
use Rattle.fc_compact.proofs.rounds.gather.Given.{Over}
use Rattle.fc_compact.proofs.rounds.gather.Goals as goal
use Rattle.fc_compact.proofs.rounds.gather.Goals.{After-commit, After-sync}

flushed : (g : Over) (c : After-sync g) → StopsAndExitsLeave g.D.Disk c.args.disk.now c.sync.new.self (ChangesHoles c.args.map.now)
flushed g c = keeps_same (laws g.met.D.Disk) c.in_ok-next.ensures.kept c.sync.ensures.stops c.sync.ensures.bytes

ready : (g : Over) (c : After-sync g) → ForSome (g.D.Disk.bytes c.sync.new.self) (IsReady c.args.map.now c.args.owners.now)
ready g c = kept_ready (laws g.met.D.Disk) c.laws.ensures c.args.map.now c.args.owners.now c.requires.stands.ready (flushed g c)

carrying : (g : Over) (c : After-sync g) → ForSome (g.D.Disk.bytes c.sync.new.self) (Carrying c.args.map.now c.gather_zones.new.map c.args.owners.now)
carrying g c = λ was told. c.in_ok-next.ensures.carrying was (sym c.sync.ensures.bytes ∙ told)

form : (g : Over) (c : After-sync g) → SameForm g.D.Disk c.args.disk.now c.sync.new.self
form g c = form_then g.D.Disk c.in_ok-next.ensures.form c.sync.ensures.form

leaves : (g : Over) (c : After-commit g) → StopsAndExitsLeave g.D.Disk c.args.disk.now c.sync.new.self (ChangesHoles c.args.map.now)
    → ForSome (g.D.Disk.bytes c.sync.new.self) (IsReady c.args.map.now c.args.owners.now) → ForSome (g.D.Disk.bytes c.sync.new.self) (Carrying c.args.map.now c.gather_zones.new.map c.args.owners.now)
    → StopsAndExitsLeave g.D.Disk c.args.disk.now c.commit.new.disk (Preserves c.args.map.now c.args.owners.now)
leaves g c kept_so is carries =
    let a = c.args in
    let m = a.map.now in
    let owners = a.owners.now in
    keeps_then (laws g.met.D.Disk) (preserves_then c.laws.ensures m owners) (kept_preserves (laws g.met.D.Disk) c.laws.ensures m owners c.requires.stands.ready kept_so)
    (keeps_told (laws g.met.D.Disk) c.commit.ensures.keeps
    (λ was image told left. zones_preserve c.laws.ensures owners m c.gather_zones.new.map c.commit.new.map a.from a.end c.gather_zones.new.changed.items c.in_ok-next.ensures.gathers c.commit.ensures.runs c.commit.ensures.contents was (is was told) (carries was told) image left))

packs : (g : Over) (c : After-commit g) → Packs c.args.owners.now c.args.map.now c.commit.new.map
packs g c = zones_packs c.laws.ensures c.args.owners.now c.args.map.now c.gather_zones.new.map c.commit.new.map c.args.from c.args.end c.gather_zones.new.changed.items c.in_ok-next.ensures.gathers c.commit.ensures.runs c.commit.ensures.contents

pub gather_zones-requires-clause-none : goal.gather_zones-requires-clause-none
gather_zones-requires-clause-none g c = c.new-changed.ensures

pub returns-in_err-next-clause-keeps : goal.returns-in_err-next-clause-keeps
returns-in_err-next-clause-keeps g c =
    let a = c.args in
    let law = laws g.met.D.Disk in
    let m = a.map.now in
    let owners = a.owners.now in
    let stands = c.requires.stands in
    kept_err owners a.disk.now c.gather_zones.new.disk m c.gather_zones.new.map _ c.from_residual.result c.from_residual.ensures.0
    (kept owners a.disk.now c.gather_zones.new.disk m c.gather_zones.new.map stands _ (kept_preserves law c.laws.ensures m owners stands.ready c.gather_zones.ensures.kept) tt tt c.gather_zones.ensures.geometry c.gather_zones.ensures.form c.in_err-next.ensures.cause)

pub returns-then-is_empty-clause-keeps : goal.returns-then-is_empty-clause-keeps
returns-then-is_empty-clause-keeps g c =
    let a = c.args in
    let law = laws g.met.D.Disk in
    let m = a.map.now in
    let owners = a.owners.now in
    let stands = c.requires.stands in
    let ok = c.in_ok-next.ensures in
    let none = no_numbers c.gather_zones.new.changed.items (eqb-true (length c.gather_zones.new.changed.items) 0 (sym c.is_empty.ensures ∙ c.if-is_empty.true)) in
    let same = ok.gathers.same none in
    kept owners a.disk.now c.gather_zones.new.disk m c.gather_zones.new.map stands _ (kept_preserves law c.laws.ensures m owners stands.ready ok.kept)
    (subst (λ (n : Map). ForSome (g.D.Disk.bytes c.gather_zones.new.disk) (IsReady n owners)) (sym same) (kept_ready law c.laws.ensures m owners stands.ready ok.kept))
    (subst (λ d. IsFalse (g.D.Disk.pending d)) (sym (ok.still none)) stands.settled)
    ok.geometry ok.form (record { later = ok.cause.later; failed = tt })

pub returns-then-is_empty-clause-gathered : goal.returns-then-is_empty-clause-gathered
returns-then-is_empty-clause-gathered g c =
    let ok = c.in_ok-next.ensures in
    let none = no_numbers c.gather_zones.new.changed.items (eqb-true (length c.gather_zones.new.changed.items) 0 (sym c.is_empty.ensures ∙ c.if-is_empty.true)) in
    let same = ok.gathers.same none in
    record {
      next = ok.next;
      packs = ok.gathers.packs;
      others = λ y out. ap (λ (n : Map). runs_of n y) same;
      less = ok.gathers.less;
      falls = λ e. absurd (cc);
      same = λ e. same;
    }

pub returns-in_err-sync-clause-keeps : goal.returns-in_err-sync-clause-keeps
returns-in_err-sync-clause-keeps g c =
    let a = c.args in
    let m = a.map.now in
    let owners = a.owners.now in
    let ok = c.in_ok-next.ensures in
    let synced = (goal.at.returns-in_err-sync-clause-keeps g c).After-sync in
    kept_err owners a.disk.now c.sync.new.self m c.gather_zones.new.map _ c.from_residual-in_err-sync.result c.from_residual-in_err-sync.ensures.0
    (kept owners a.disk.now c.sync.new.self m c.gather_zones.new.map c.requires.stands _ (kept_preserves (laws g.met.D.Disk) c.laws.ensures m owners c.requires.stands.ready (flushed g synced)) tt tt ok.geometry
    (form g synced) (cause_then g.D.Disk a.disk.now c.gather_zones.new.disk c.sync.new.self _ ok.cause.later c.in_err-sync.ensures.cause))

pub commit-requires-clause-disk : goal.commit-requires-clause-disk
commit-requires-clause-disk g c =
    let same = form g (goal.at.commit-requires-clause-disk g c).After-sync in
    let room = same.sectors_stay in
    subst (λ (h : Geometry). TakesCopies g.D.Disk c.sync.new.self h) (sym c.in_ok-next.ensures.gathers.packs.leads.geometry)
    (record {
      attached = same.attached_stays ∙ c.requires.stands.disc.attached;
      settled = c.in_ok-sync.ensures.durable;
      size = same.size_stays ∙ c.requires.stands.disc.size;
      on_disk = omega (arith, c.requires.stands.copies, room);
    })

pub commit-requires-clause-rising : goal.commit-requires-clause-rising
commit-requires-clause-rising g c = c.in_ok-next.ensures.gathers.rising

pub commit-requires-clause-zones : goal.commit-requires-clause-zones
commit-requires-clause-zones g c =
    let gathers = c.in_ok-next.ensures.gathers in
    subst (λ (h : Geometry). All (λ y. y < h.zones) c.gather_zones.new.changed.items) (sym gathers.packs.leads.geometry) (λ k d lt. let below = gathers.high k d lt in let end = c.requires.end in omega (arith, below, end))

pub commit-requires-clause-ready : goal.commit-requires-clause-ready
commit-requires-clause-ready g c = λ image told.
    let n = c.gather_zones.new.map in
    zones_can c.laws.ensures c.args.owners.now c.args.map.now n n c.args.from c.args.end c.gather_zones.new.changed.items c.in_ok-next.ensures.gathers image (ready g (goal.at.commit-requires-clause-ready g c).After-sync image told)

pub returns-in_err-commit-clause-keeps : goal.returns-in_err-commit-clause-keeps
returns-in_err-commit-clause-keeps g c =
    let a = c.args in
    let m = a.map.now in
    let last = c.commit.new.map in
    let owners = a.owners.now in
    let done = (goal.at.returns-in_err-commit-clause-keeps g c).After-commit in
    let synced = (goal.at.returns-in_err-commit-clause-keeps g c).After-sync in
    let gathered = c.in_ok-next.ensures.cause.later in
    let flushed_at = c.sync.ensures.cause.later in
    kept_err owners a.disk.now c.commit.new.disk m last _ c.from_residual-in_err-commit.result c.from_residual-in_err-commit.ensures.0
    (kept owners a.disk.now c.commit.new.disk m last c.requires.stands _ (leaves g done (flushed g synced) (ready g synced) (carrying g synced)) tt tt (packs g done).leads.geometry (form_then g.D.Disk (form g synced) c.commit.ensures.form)
    (cause_then g.D.Disk a.disk.now c.sync.new.self c.commit.new.disk _ (omega (arith, gathered, flushed_at)) c.in_err-commit.ensures.cause))

pub returns-clause-keeps : goal.returns-clause-keeps
returns-clause-keeps g c =
    let a = c.args in
    let m = a.map.now in
    let last = c.commit.new.map in
    let owners = a.owners.now in
    let done = (goal.at.returns-clause-keeps g c).After-commit in
    let synced = (goal.at.returns-clause-keeps g c).After-sync in
    let gathered = c.in_ok-next.ensures.cause.later in
    let flushed_at = c.sync.ensures.cause.later in
    let committed = c.commit.ensures.cause.later in
    kept owners a.disk.now c.commit.new.disk m last c.requires.stands _ (leaves g done (flushed g synced) (ready g synced) (carrying g synced))
    (λ image told.
    let before = led (laws g.met.D.Disk) c.commit.ensures.keeps image told in
    zones_ready c.laws.ensures owners m c.gather_zones.new.map last a.from a.end c.gather_zones.new.changed.items c.in_ok-next.ensures.gathers c.commit.ensures.runs c.commit.ensures.contents
    before.0 (ready g synced before.0 before.1) (carrying g synced before.0 before.1) image (c.in_ok-commit.ensures.ends before.0 before.1 image told))
    c.in_ok-commit.ensures.durable (packs g done).leads.geometry (form_then g.D.Disk (form g synced) c.commit.ensures.form) (record { later = omega (arith, gathered, flushed_at, committed); failed = tt })

pub returns-clause-gathered : goal.returns-clause-gathered
returns-clause-gathered g c =
    let m = c.args.map.now in
    let owners = c.args.owners.now in
    let gathers = c.in_ok-next.ensures.gathers in
    let n = c.gather_zones.new.map in
    let zones = c.gather_zones.new.changed.items in
    let last = c.commit.new.map in
    let keeps = c.commit.ensures.runs in
    let contents = c.commit.ensures.contents in
    let some = some_numbers zones (eqb-false (length zones) 0 (sym c.is_empty.ensures ∙ c.if-is_empty.false)) in
    record {
      next = c.in_ok-next.ensures.next;
      packs = packs g (goal.at.returns-clause-gathered g c).After-commit;
      others = zones_others c.laws.ensures owners m n last c.args.from c.args.end zones gathers keeps contents;
      less = zones_less c.laws.ensures owners m n last c.args.from c.args.end zones gathers keeps contents;
      falls = λ e. zones_fall c.laws.ensures owners m n last c.args.from c.args.end zones gathers keeps contents some;
      same = λ e. absurd (cc);
    }
