use Rattle.std.proofs.Common.{◌≡◌, inl, inr, Bool, true, false, length, refl, sym, subst}
use Rattle.std.specs.Prelude.{nat_lt}
use Rattle.std.proofs.lemmas.Result.{on_ok_weaker}
use Rattle.fc_device.proofs.DiskLaws.{laws}
use Rattle.fc_device.proofs.StopLemmas.{keeps_start, keeps_weaker, led}
use Rattle.fc_device.specs.Calls.{StopsAndExitsLeave}
use Rattle.fc_record.specs.declared.Geometry.{Geometry}
use Rattle.fc_newmap.proofs.PassLemmas.{keeps_told}
use Rattle.fc_newmap.specs.Committing.{TakesCopies}
use Rattle.fc_newmap.specs.Copies.{ChangesCopies, HoldsCopies}
use Rattle.fc_newmap.proofs.ZonesLemmas.{keeps_at_once}
use Rattle.fc_writing.specs.declared.ready.MapStep.{MapStep}
use Rattle.fc_writing.specs.declared.ready.MapStep.TheVariants as steps
use Rattle.fc_writing.specs.New.{InStep}
use Rattle.fc_writing.specs.Steps.{CanEdit, CanStep, HasStepped}
use Rattle.fc_writing.proofs.CopyLemmas.{chooses_first}
use Rattle.fc_writing.proofs.StepLemmas.{committed, geometry_is, not_more, ready, step_done, zones_low}
use Rattle.fc_writing.proofs.steps.make_step.Given.{Over}
use Rattle.fc_writing.proofs.steps.make_step.Goals as goal
use Rattle.fc_writing.proofs.steps.make_step.Goals.{After-edit}

pub returns-in-Nothing-clause-map : goal.returns-in-Nothing-clause-map
returns-in-Nothing-clause-map g c = subst (λ (s : MapStep). HasStepped c.args.map.now c.args.map.now s) (sym c.in-Nothing.is) refl

pub returns-in-Nothing-clause-frame : goal.returns-in-Nothing-clause-frame
returns-in-Nothing-clause-frame g c = keeps_start (laws g.met.D.Disk) (λ image. record { same_length = refl; outside = λ s out. refl }) c.args.disk.now c.requires.settled

pub returns-in-Nothing-clause-counts : goal.returns-in-Nothing-clause-counts
returns-in-Nothing-clause-counts g c =
    keeps_at_once (laws g.met.D.Disk) (λ was image. InStep c.args.map.now c.args.map.now c.args.step.now image) c.args.disk.now c.requires.settled
    (λ was told. inr (inl (chooses_first c.args.map.now.geometry c.args.map.now.zones was (c.requires.copies was told))))

can : (g : Over) (c : After-edit g) → CanEdit c.args.map.now c.in-New.space
can g c = subst (λ (s : MapStep). CanStep c.args.map.now s) c.in-New.is c.requires.can

pub edit-requires-clause-can : goal.edit-requires-clause-can
edit-requires-clause-can g c = subst (λ (s : MapStep). CanStep c.args.map.now s) c.in-New.is c.requires.can

pub commit_zones-requires-clause-rising : goal.commit_zones-requires-clause-rising
commit_zones-requires-clause-rising g c = (can g (goal.at.commit_zones-requires-clause-rising g c).After-edit).rising

pub commit_zones-requires-clause-disk : goal.commit_zones-requires-clause-disk
commit_zones-requires-clause-disk g c =
    subst (λ (h : Geometry). TakesCopies g.D.Disk c.args.disk.now h)
    (sym (geometry_is c.args.map.now c.edit.new.map c.in-New.space c.is_map.ensures (can g (goal.at.commit_zones-requires-clause-disk g c).After-edit) c.edit.ensures.edits c.edit.ensures.zones))
    (record { attached = c.requires.attached; settled = c.requires.settled; size = c.requires.size; on_disk = c.requires.on_disk })

pub commit_zones-requires-clause-zones : goal.commit_zones-requires-clause-zones
commit_zones-requires-clause-zones g c =
    zones_low c.args.map.now c.edit.new.map c.in-New.space c.is_map.ensures (can g (goal.at.commit_zones-requires-clause-zones g c).After-edit) c.edit.ensures.edits c.edit.ensures.zones

pub commit_zones-requires-clause-ready : goal.commit_zones-requires-clause-ready
commit_zones-requires-clause-ready g c = λ image told.
    ready c.args.map.now c.edit.new.map c.in-New.space c.is_map.ensures (can g (goal.at.commit_zones-requires-clause-ready g c).After-edit) c.edit.ensures.edits c.edit.ensures.zones image (c.requires.copies image told)

same : (g : Over) (c : After-edit g) → c.edit.new.map.geometry ≡ c.args.map.now.geometry
same g c = geometry_is c.args.map.now c.edit.new.map c.in-New.space c.is_map.ensures (can g c) c.edit.ensures.edits c.edit.ensures.zones

pub returns-in-New-clause-map : goal.returns-in-New-clause-map
returns-in-New-clause-map g c =
    subst (λ (s : MapStep). HasStepped c.args.map.now c.commit_zones.new.map s) (sym c.in-New.is)
    (step_done c.args.map.now c.edit.new.map c.in-New.space c.is_map.ensures (can g (goal.at.returns-in-New-clause-map g c).After-edit) c.edit.ensures.edits c.edit.ensures.zones
    c.commit_zones.new.map c.commit_zones.ensures.runs c.commit_zones.ensures.contents c.edit.ensures.moved)

pub returns-in-New-clause-frame : goal.returns-in-New-clause-frame
returns-in-New-clause-frame g c =
    keeps_weaker (laws g.met.D.Disk) c.commit_zones.ensures.keeps (λ was image changes. subst (λ (h : Geometry). ChangesCopies h was image) (same g (goal.at.returns-in-New-clause-frame g c).After-edit) changes)

pub returns-in-New-clause-counts : goal.returns-in-New-clause-counts
returns-in-New-clause-counts g c =
    let law = laws g.met.D.Disk in
    let m = c.args.map.now in
    let m' = c.commit_zones.new.map in
    let s = c.in-New.space in
    subst (λ (t : MapStep). StopsAndExitsLeave g.D.Disk c.args.disk.now c.commit_zones.new.disk (λ was image. InStep m m' t image)) (sym c.in-New.is)
    (by (nat_lt 9 (length s.zones.items)) refl)
  where
    by : (b : Bool) → nat_lt 9 (length c.in-New.space.zones.items) ≡ b
        → StopsAndExitsLeave g.D.Disk c.args.disk.now c.commit_zones.new.disk (λ was image. InStep c.args.map.now c.commit_zones.new.map (steps.New c.in-New.space) image)
    by true wide = keeps_weaker (laws g.met.D.Disk) c.commit_zones.ensures.keeps (λ was image changes. inl wide)
    by false few =
        keeps_told (laws g.met.D.Disk) (c.commit_zones.ensures.whole (not_more (length c.in-New.space.zones.items) few))
        (λ was image told leaves. committed c.args.map.now c.commit_zones.new.map c.edit.new.map.geometry c.in-New.space was image (same g (goal.at.returns-in-New-clause-counts g c).After-edit) (c.requires.copies was told) leaves)

pub returns-in-New-clause-equal : goal.returns-in-New-clause-equal
returns-in-New-clause-equal g c =
    on_ok_weaker c.commit_zones.result
    (λ ends image is. let was = led (laws g.met.D.Disk) c.commit_zones.ensures.keeps image is in
    subst (λ (h : Geometry). HoldsCopies h c.commit_zones.new.map.zones image) (same g (goal.at.returns-in-New-clause-equal g c).After-edit) (ends was.0 was.1 image is).copies)
    c.commit_zones.ensures.ends
