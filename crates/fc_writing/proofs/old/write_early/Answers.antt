use Rattle.std.proofs.Common.{◌≡◌, ◌*◌, ◌⊎◌, ℕ, List, [], sym, ap, subst, ◌∙◌}
use Rattle.std.proofs.lemmas.Result.{on_ok_weaker}
use Rattle.fc_device.proofs.DiskLaws.{laws}
use Rattle.fc_device.proofs.StopLemmas.{keeps_weaker, led, one_told}
use Rattle.fc_device.specs.Calls.{StopsAndExitsLeave}
use Rattle.fc_newmap.proofs.PassLemmas.{keeps_on}
use Rattle.fc_image.specs.Layout.{Layout, map_place}
use Rattle.fc_writing.specs.Content.{HasContent, IsPart}
use Rattle.fc_writing.specs.Old.{StepLeaves, sector_of}
use Rattle.fc_writing.specs.Ready.{early_content}
use Rattle.fc_writing.proofs.FrontLemmas.{HasUnits}
use Rattle.fc_writing.proofs.OldLemmas.{early_before, early_taken, early_taking}
use Rattle.fc_writing.proofs.StageLemmas.{without_map}
use Rattle.fc_writing.proofs.old.write_early.Given.{Over}
use Rattle.fc_writing.proofs.old.write_early.Goals as goal
use Rattle.fc_writing.proofs.old.write_early.Goals.{After-put_early}

pub put_early-requires-clause-size : goal.put_early-requires-clause-size
put_early-requires-clause-size g c = c.requires.size ∙ ap (λ (u : ℕ). 256 * u) (sym c.sector_units.ensures.value)

pub put_early-requires-clause-can : goal.put_early-requires-clause-can
put_early-requires-clause-can g c = without_map (g.D.Disk.sectors c.args.disk.now) (map_place (Layout.Old c.args.map.now)) c.args.ready.now c.requires.can.put

units : (g : Over) (c : After-put_early g) → HasUnits c.args.map.now
units g c = subst (λ (u : ℕ). (u ≡ 1) ⊎ (u ≡ 4)) c.sector_units.ensures.value c.sector_units.ensures.units

-- what is written beside the map
left : (g : Over) (c : After-put_early g) → StopsAndExitsLeave g.D.Disk c.args.disk.now c.put_early.new.disk
    (λ was image. IsPart (sector_of c.args.map.now) [] (early_content (sector_of c.args.map.now) was c.args.bytes.now c.args.ready.now) was image)
left g c =
    subst (λ (u : ℕ). StopsAndExitsLeave g.D.Disk c.args.disk.now c.put_early.new.disk (λ was image. IsPart (256 * u) [] (early_content (256 * u) was c.args.bytes.now c.args.ready.now) was image))
    c.sector_units.ensures.value c.put_early.ensures.keeps

pub returns-in_err-put_early-clause-units : goal.returns-in_err-put_early-clause-units
returns-in_err-put_early-clause-units g c = units g (goal.at.returns-in_err-put_early-clause-units g c).After-put_early

pub returns-clause-units : goal.returns-clause-units
returns-clause-units g c = units g (goal.at.returns-clause-units g c).After-put_early

pub returns-in_err-put_early-clause-keeps : goal.returns-in_err-put_early-clause-keeps
returns-in_err-put_early-clause-keeps g c =
    keeps_weaker (laws g.met.D.Disk) (left g (goal.at.returns-in_err-put_early-clause-keeps g c).After-put_early)
    (λ was image part. early_before c.args.map.now (units g (goal.at.returns-in_err-put_early-clause-keeps g c).After-put_early) (g.D.Disk.sectors c.args.disk.now) c.args.ready.now c.args.bytes.now c.requires.can.put was image part)

pub returns-clause-keeps : goal.returns-clause-keeps
returns-clause-keeps g c =
    let at = (goal.at.returns-clause-keeps g c).After-put_early in
    let map = c.args.map.now in
    keeps_on (laws g.met.D.Disk) (left g at) c.make_old_step.ensures.keeps
    (λ was image told part. early_before map (units g at) (g.D.Disk.sectors c.args.disk.now) c.args.ready.now c.args.bytes.now c.requires.can.put was image part)
    (λ was there image told told_mid part leaves.
    early_taking map (units g at) (g.D.Disk.sectors c.args.disk.now) c.args.ready.now c.args.bytes.now c.requires.can.put was there part
    (subst (λ (u : ℕ). HasContent (256 * u) (early_content (256 * u) was c.args.bytes.now c.args.ready.now) there) c.sector_units.ensures.value (c.in_ok-put_early.ensures.written was told there told_mid)) image leaves)

pub returns-clause-taken : goal.returns-clause-taken
returns-clause-taken g c =
    let at = (goal.at.returns-clause-taken g c).After-put_early in
    on_ok_weaker c.make_old_step.result
    (λ written was told image is.
    let first = (left g at).exit was told in
    let second = led (laws g.met.D.Disk) c.make_old_step.ensures.keeps image is in
    let there : List ℕ = first.0 in
    early_taken c.args.map.now (units g at) (g.D.Disk.sectors c.args.disk.now) c.args.ready.now c.args.bytes.now c.requires.can.put was there first.2
    (subst (λ (u : ℕ). HasContent (256 * u) (early_content (256 * u) was c.args.bytes.now c.args.ready.now) there) c.sector_units.ensures.value (c.in_ok-put_early.ensures.written was told there first.1)) image
    (subst (λ (b : List ℕ). StepLeaves c.args.map.now c.args.ready.now.take b image) (one_told (sym second.1 ∙ first.1)) second.2) (written there first.1 image is))
    c.make_old_step.ensures.written
