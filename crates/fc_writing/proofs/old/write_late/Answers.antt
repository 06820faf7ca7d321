use Rattle.std.proofs.Common.{All, ◌≡◌, ◌<◌, ◌*◌, ◌⊎◌, ℕ, List, [], sym, ap, subst, ◌∙◌}
use Rattle.std.specs.List.{flat_map}
use Rattle.std.proofs.lemmas.Result.{on_ok_weaker}
use Rattle.fc_device.proofs.DiskLaws.{laws}
use Rattle.fc_device.proofs.StopLemmas.{keeps_weaker, led, one_told}
use Rattle.fc_device.specs.Calls.{StopsAndExitsLeave}
use Rattle.fc_newmap.proofs.PassLemmas.{keeps_on}
use Rattle.fc_image.specs.Layout.{Layout, map_place}
use Rattle.fc_objects.specs.Written.{AreApart}
use Rattle.fc_writing.specs.declared.ready.Piece.{Piece}
use Rattle.fc_writing.specs.Content.{IsPart}
use Rattle.fc_writing.specs.Old.{StepLeaves, sector_of}
use Rattle.fc_writing.specs.Ready.{content_of, late_content, place_of}
use Rattle.fc_writing.proofs.EarlyLemmas.{late_low, once_late}
use Rattle.fc_writing.proofs.FrontLemmas.{HasUnits}
use Rattle.fc_writing.proofs.OldLemmas.{late_before, late_given, late_giving, late_lent}
use Rattle.fc_writing.proofs.old.write_late.Given.{Over}
use Rattle.fc_writing.proofs.old.write_late.Goals as goal
use Rattle.fc_writing.proofs.old.write_late.Goals.{After-put}

pub put-requires-clause-size : goal.put-requires-clause-size
put-requires-clause-size g c = c.requires.size ∙ ap (λ (u : ℕ). 256 * u) (sym c.sector_units.ensures.value)

pub put-requires-clause-on_disk : goal.put-requires-clause-on_disk
put-requires-clause-on_disk g c =
    subst (λ (ps : List Piece). All (λ s. s < g.D.Disk.sectors c.args.disk.now) (flat_map place_of ps)) (sym c.deref.ensures.value)
    (late_low (g.D.Disk.sectors c.args.disk.now) (map_place (Layout.Old c.args.map.now)) c.args.ready.now c.requires.can.put)

pub put-requires-clause-once : goal.put-requires-clause-once
put-requires-clause-once g c =
    subst (λ (ps : List Piece). AreApart (flat_map place_of ps)) (sym c.deref.ensures.value) (once_late (g.D.Disk.sectors c.args.disk.now) (map_place (Layout.Old c.args.map.now)) c.args.ready.now c.requires.can.put)

units : (g : Over) (c : After-put g) → HasUnits c.args.map.now
units g c = subst (λ (u : ℕ). (u ≡ 1) ⊎ (u ≡ 4)) c.sector_units.ensures.value c.sector_units.ensures.units

-- what the pieces leave
left : (g : Over) (c : After-put g) → StopsAndExitsLeave g.D.Disk c.args.disk.now c.put.new.disk (IsPart (sector_of c.args.map.now) [] (late_content (sector_of c.args.map.now) c.args.ready.now))
left g c =
    subst (λ (ps : List Piece). StopsAndExitsLeave g.D.Disk c.args.disk.now c.put.new.disk (IsPart (sector_of c.args.map.now) [] (flat_map (content_of (sector_of c.args.map.now)) ps))) c.deref.ensures.value
    (subst (λ (u : ℕ). StopsAndExitsLeave g.D.Disk c.args.disk.now c.put.new.disk (IsPart (256 * u) [] (flat_map (content_of (256 * u)) c.deref.result.now))) c.sector_units.ensures.value c.put.ensures.keeps)

pub returns-in_err-put-clause-keeps : goal.returns-in_err-put-clause-keeps
returns-in_err-put-clause-keeps g c =
    let at = (goal.at.returns-in_err-put-clause-keeps g c).After-put in
    keeps_weaker (laws g.met.D.Disk) (left g at) (λ was image part. late_before c.args.map.now (units g at) (g.D.Disk.sectors c.args.disk.now) c.args.ready.now c.requires.can.put was image part)

pub returns-clause-keeps : goal.returns-clause-keeps
returns-clause-keeps g c =
    let at = (goal.at.returns-clause-keeps g c).After-put in
    keeps_on (laws g.met.D.Disk) (left g at) c.make_old_step.ensures.keeps
    (λ was image told part. late_before c.args.map.now (units g at) (g.D.Disk.sectors c.args.disk.now) c.args.ready.now c.requires.can.put was image part)
    (λ was there image told told_mid part leaves.
    late_giving c.args.map.now (units g at) (g.D.Disk.sectors c.args.disk.now) c.args.ready.now c.requires.can.put was there part
    (late_lent (sector_of c.args.map.now) (256 * c.sector_units.result) c.args.ready.now c.deref.result.now there (ap (λ (u : ℕ). 256 * u) c.sector_units.ensures.value) c.deref.ensures.value
    (c.in_ok-put.ensures.written there told_mid)) image leaves)

pub returns-clause-given : goal.returns-clause-given
returns-clause-given g c =
    let at = (goal.at.returns-clause-given g c).After-put in
    on_ok_weaker c.make_old_step.result
    (λ written was told image is.
    let first = (left g at).exit was told in
    let second = led (laws g.met.D.Disk) c.make_old_step.ensures.keeps image is in
    let there : List ℕ = first.0 in
    late_given c.args.map.now (units g at) (g.D.Disk.sectors c.args.disk.now) c.args.ready.now c.requires.can.put was there first.2
    (late_lent (sector_of c.args.map.now) (256 * c.sector_units.result) c.args.ready.now c.deref.result.now there (ap (λ (u : ℕ). 256 * u) c.sector_units.ensures.value) c.deref.ensures.value
    (c.in_ok-put.ensures.written there first.1)) image
    (subst (λ (b : List ℕ). StepLeaves c.args.map.now c.args.ready.now.give b image) (one_told (sym second.1 ∙ first.1)) second.2) (written there first.1 image is))
    c.make_old_step.ensures.written
