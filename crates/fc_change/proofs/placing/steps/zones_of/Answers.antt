use Rattle.std.proofs.Common.{◌≡◌, ◌∙◌, Option, ap, sym, subst, filter}
use Rattle.std.proofs.lemmas.Result.{IfOk-weaker}
use Rattle.std.specs.Prelude.{IfOk}
use Rattle.fc_newmap.specs.Map.{zone_numbers}
use Rattle.fc_writing.specs.declared.ready.RootPlace.{RootPlace}
use Rattle.fc_writing.specs.Steps.{is_changed}
use Rattle.fc_change.specs.GrownSpace.{plans_of}
use Rattle.fc_change.specs.Steps.{with_zone_0, zones_of}
use Rattle.fc_change.proofs.StepLemmas.{zones_listed}
use Rattle.fc_change.proofs.placing.steps.zones_of.Goals as goal

pub returns-in-Some : goal.returns-in-Some
returns-in-Some c =
    let m = c.args.map.now in
    let plans = plans_of c.args.object.now c.args.dir.now in
    let gone = c.args.gone.now in
    let zones = c.changed_zones.new.zones.items in
    let are : zones ≡ filter (is_changed m plans gone) (zone_numbers m.geometry) =
    zones_listed m c.as_ref.result c.as_ref-2.result c.args.object.now c.args.dir.now gone c.new-zones.result.items zones c.as_ref.ensures.value c.as_ref-2.ensures.value c.new-zones.ensures.items
    c.in_ok-changed_zones.ensures.ok in
    subst (λ (r : Option RootPlace). IfOk c.with_zone_0.result (λ more. more.items ≡ zones_of m plans gone r)) (sym c.in-Some.is)
    (IfOk-weaker c.with_zone_0.result (λ more. more.items ≡ with_zone_0 zones) (λ more. more.items ≡ with_zone_0 (filter (is_changed m plans gone) (zone_numbers m.geometry))) (λ more is. is ∙ ap with_zone_0 are)
    c.with_zone_0.ensures)

pub returns-in-None : goal.returns-in-None
returns-in-None c =
    let m = c.args.map.now in
    let plans = plans_of c.args.object.now c.args.dir.now in
    let gone = c.args.gone.now in
    let zones = c.changed_zones.new.zones.items in
    subst (λ (r : Option RootPlace). zones ≡ zones_of m plans gone r) (sym c.in-None.is)
    (zones_listed m c.as_ref.result c.as_ref-2.result c.args.object.now c.args.dir.now gone c.new-zones.result.items zones c.as_ref.ensures.value c.as_ref-2.ensures.value c.new-zones.ensures.items
    c.in_ok-changed_zones.ensures.ok)
