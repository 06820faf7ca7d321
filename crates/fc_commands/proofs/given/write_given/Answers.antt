use Rattle.std.proofs.Common.{◌<◌, All, ℕ, List, [], Result, Ok, Err, refl, sym, ap, subst, ◌∙◌, arith}
use Rattle.std.proofs.lemmas.Result.{err_from_is_err_and}
use Rattle.fc_device.proofs.DiskLaws.{laws}
use Rattle.fc_device.proofs.StopLemmas.{keeps_weaker, led}
use Rattle.fc_device.specs.Calls.{StopsAndExitsLeave}
use Rattle.fc_newmap.proofs.PassLemmas.{keeps_on, keeps_told}
use Rattle.fc_image.specs.Layout.{Layout, sector_bytes}
use Rattle.fc_import.specs.declared.place.ImportFault.{ImportFault}
use Rattle.fc_import.specs.Imports.{HasCauses}
use Rattle.fc_objects.specs.Written.{AreApart}
use Rattle.fc_space.specs.Space.{layout_of}
use Rattle.fc_writing.specs.declared.ready.Ready.{Ready}
use Rattle.fc_writing.specs.declared.ready.Source.{Source}
use Rattle.fc_writing.specs.Ready.{source_place}
use Rattle.fc_given.specs.Law.{IsGivenSource, rest_of}
use Rattle.fc_holdings.specs.Holdings.{HoldsMap}
use Rattle.fc_commands.specs.Written.{CanWriteOn, ChangeLeavesOn, IsChangedOn, IsGivenOn}
use Rattle.fc_commands.proofs.GivenLemmas.{begun_as, copies_on, done_on, first_on, given_on, later_on, rest_on, source_on_disk, source_once, stored_as}
use Rattle.fc_commands.proofs.given.write_given.Given.{Over}
use Rattle.fc_commands.proofs.given.write_given.Goals as goal
use Rattle.fc_commands.proofs.given.write_given.Goals.{After-write_change}

pub import_source-requires-clause-size : goal.import_source-requires-clause-size
import_source-requires-clause-size g c = c.requires.writable.size ∙ sym c.sector_bytes.ensures

pub import_source-requires-clause-on_disk : goal.import_source-requires-clause-on_disk
import_source-requires-clause-on_disk g c =
    subst (λ (s : Source). All (λ t. t < g.D.Disk.sectors c.args.disk.now) (source_place s)) (sym c.part_of-source.ensures.source)
    (source_on_disk (layout_of c.args.places.now) (g.D.Disk.sectors c.args.disk.now) c.args.ready c.requires.writable.can)

pub import_source-requires-clause-once : goal.import_source-requires-clause-once
import_source-requires-clause-once g c =
    subst (λ (s : Source). AreApart (source_place s)) (sym c.part_of-source.ensures.source)
    (source_once (layout_of c.args.places.now) (g.D.Disk.sectors c.args.disk.now) c.args.ready c.requires.writable.can)

pub import_source-requires-clause-copies_none : goal.import_source-requires-clause-copies_none
import_source-requires-clause-copies_none g c = subst IsGivenSource (sym c.part_of-source.ensures.source) c.requires.source

-- ---- the bytes that were given

pub returns-in_err-import_source-clause-keeps : goal.returns-in_err-import_source-clause-keeps
returns-in_err-import_source-clause-keeps g c =
    let layout = layout_of c.args.places.now in let given = g.B.Supply.given c.import_source.new.from in
    keeps_told (laws g.met.D.Disk) c.import_source.ensures.keeps
    (λ was image told part. first_on c.beforehand.ensures layout (g.D.Disk.sectors c.args.disk.now) c.args.ready c.args.copies given was image c.is_map.ensures c.requires.writable.can (c.requires.writable.known was told)
    (begun_as c.sector_bytes.result (sector_bytes layout) c.part_of-source.result.0 c.args.ready given was image c.sector_bytes.ensures c.part_of-source.ensures.source part))

pub returns-in_err-import_source-clause-stopped : goal.returns-in_err-import_source-clause-stopped
returns-in_err-import_source-clause-stopped g c = λ e.
    let layout = layout_of c.args.places.now in let given = g.B.Supply.given c.import_source.new.from in (
      keeps_weaker (laws g.met.D.Disk) c.import_source.ensures.keeps
          (λ was image part. begun_as c.sector_bytes.result (sector_bytes layout) c.part_of-source.result.0 c.args.ready given was image c.sector_bytes.ensures c.part_of-source.ensures.source part),
      refl,
    )

pub returns-in_err-import_source-clause-causes : goal.returns-in_err-import_source-clause-causes
returns-in_err-import_source-clause-causes g c =
    let p = err_from_is_err_and c.from_residual.result c.from_residual.ensures.1 in
    let is = p.1 ∙ ap (λ (x : ImportFault). let r : Result (Unit {0}) ImportFault = Err x in r) p.2 in
    subst (HasCauses g.D.Disk g.B.Supply c.args.disk.now c.import_source.new.disk c.args.from.now c.import_source.new.from) (sym is) c.in_err-import_source.ensures.causes

-- ---- the rest

pub write_change-requires-clause-size : goal.write_change-requires-clause-size
write_change-requires-clause-size g c = c.import_source.ensures.form.size_stays ∙ c.requires.writable.size

pub write_change-requires-clause-room : goal.write_change-requires-clause-room
write_change-requires-clause-room g c = subst (HoldsMap (layout_of c.args.places.now)) (sym c.import_source.ensures.form.sectors_stay) c.requires.writable.room

pub write_change-requires-clause-can : goal.write_change-requires-clause-can
write_change-requires-clause-can g c =
    let layout = layout_of c.args.places.now in
    subst (λ (x : Ready). CanWriteOn layout (g.D.Disk.sectors c.import_source.new.disk) x) (sym c.part_of-source.ensures.rest)
    (subst (λ (n : ℕ). CanWriteOn layout n (rest_of c.args.ready)) (sym c.import_source.ensures.form.sectors_stay)
    (rest_on c.beforehand.ensures layout (g.D.Disk.sectors c.args.disk.now) c.args.ready c.requires.writable.can))

pub write_change-requires-clause-known : goal.write_change-requires-clause-known
write_change-requires-clause-known g c = λ image told.
    let layout = layout_of c.args.places.now in let given = g.B.Supply.given c.import_source.new.from in
    let first = led (laws g.met.D.Disk) c.import_source.ensures.keeps image told in
    copies_on c.beforehand.ensures layout (g.D.Disk.sectors c.args.disk.now) c.args.ready c.args.copies given first.0 image c.requires.writable.can
    (begun_as c.sector_bytes.result (sector_bytes layout) c.part_of-source.result.0 c.args.ready given first.0 image c.sector_bytes.ensures c.part_of-source.ensures.source first.2) (c.requires.writable.known first.0 first.1)

-- whatever it answers
kept : (g : Over) (c : After-write_change g) → StopsAndExitsLeave g.D.Disk c.args.disk.now c.write_change.new.disk (ChangeLeavesOn (layout_of c.args.places.now) c.args.ready (g.B.Supply.given c.import_source.new.from))
kept g c =
    let law = c.beforehand.ensures in let layout = layout_of c.args.places.now in let n = g.D.Disk.sectors c.args.disk.now in let r = c.args.ready in
    let given = g.B.Supply.given c.import_source.new.from in let can = c.requires.writable.can in let src = c.part_of-source.result.0 in let size = c.sector_bytes.result in
    keeps_on (laws g.met.D.Disk) c.import_source.ensures.keeps c.write_change.ensures.keeps
    (λ was image told part. first_on law layout n r c.args.copies given was image c.is_map.ensures can (c.requires.writable.known was told)
    (begun_as size (sector_bytes layout) src r given was image c.sector_bytes.ensures c.part_of-source.ensures.source part))
    (λ was there image told told_mid part then. later_on law layout n r given [] was there image c.is_map.ensures can
    (stored_as size (sector_bytes layout) src r given was there c.sector_bytes.ensures c.part_of-source.ensures.source part (c.in_ok-import_source.ensures.written was told there told_mid))
    (subst (λ (x : Ready). ChangeLeavesOn layout x [] there image) c.part_of-source.ensures.rest then))

pub returns-clause-keeps : goal.returns-clause-keeps
returns-clause-keeps g c = kept g (goal.at.returns-clause-keeps g c).After-write_change

pub returns-in-Ok-clause-keeps : goal.returns-in-Ok-clause-keeps
returns-in-Ok-clause-keeps g c = kept g (goal.at.returns-in-Ok-clause-keeps g c).After-write_change

pub returns-clause-stopped : goal.returns-clause-stopped
returns-clause-stopped g c = λ e. absurd (cc)

pub returns-clause-causes : goal.returns-clause-causes
returns-clause-causes g c =
    let causes = c.in_ok-import_source.ensures.causes in
    let rose = c.in-Err.ensures.cause.failed in
    record {
      disk_later = omega (arith, causes.disk_later, c.write_change.ensures.cause.later);
      supply_later = causes.supply_later;
      disk = λ e. omega (arith, causes.disk_later, rose);
      supply_fails = λ e. absurd (cc);
    }

pub returns-in-Ok-clause-causes : goal.returns-in-Ok-clause-causes
returns-in-Ok-clause-causes g c =
    let causes = c.in_ok-import_source.ensures.causes in
    record {
      disk_later = omega (arith, causes.disk_later, c.write_change.ensures.cause.later);
      supply_later = causes.supply_later;
      disk = λ e. absurd (cc);
      supply_fails = λ e. absurd (cc);
    }

pub returns-in-Ok-clause-done : goal.returns-in-Ok-clause-done
returns-in-Ok-clause-done g c = λ was told image told_new.
    let layout = layout_of c.args.places.now in let now = layout_of c.write_change.new.places in let n = g.D.Disk.sectors c.args.disk.now in let r = c.args.ready in
    let given = g.B.Supply.given c.import_source.new.from in
    let first = c.import_source.ensures.keeps.exit was told in
    done_on c.beforehand.ensures layout now n r given [] was first.0 image c.is_map.ensures c.requires.writable.can
    (stored_as c.sector_bytes.result (sector_bytes layout) c.part_of-source.result.0 r given was first.0 c.sector_bytes.ensures c.part_of-source.ensures.source first.2 (c.in_ok-import_source.ensures.written was told first.0 first.1))
    (subst (λ (x : Ready). IsChangedOn layout now x [] first.0 image) c.part_of-source.ensures.rest (c.in-Ok.ensures.done first.0 first.1 image told_new))

pub returns-in-Ok-clause-map : goal.returns-in-Ok-clause-map
returns-in-Ok-clause-map g c =
    let layout = layout_of c.args.places.now in let now = layout_of c.write_change.new.places in
    given_on layout now c.args.ready (subst (λ (x : Ready). IsGivenOn layout x now) c.part_of-source.ensures.rest c.in-Ok.ensures.given)
