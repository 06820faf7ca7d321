use Rattle.std.proofs.Common.{◌≡◌, ◌++◌, ◌∙◌, [], ℕ, List, ap, drop, refl, subst, take}
use Rattle.fc_objects.specs.Extents.{sectors_in}
use Rattle.fc_record.specs.declared.Geometry.{Geometry}
use Rattle.fc_newmap.specs.Map.{sectors_of}
use Rattle.fc_plan.specs.Parts.{fronts}
use Rattle.fc_placing.specs.Extents.{parts_met}
use Rattle.fc_change.specs.GrownSpace.{plan_sectors}
use Rattle.fc_safe.proofs.ExtentLemmas.{both_passes}
use Rattle.fc_safe.proofs.extents.extents_at.Goals as goal

pub returns : goal.returns
returns c =
    let plan = c.args.plan.now in
    let h = c.geometry-g.result.now in
    let parts = fronts plan.parts.items in
    subst (λ (g : Geometry). sectors_in c.push_met-2.new.place.items ≡ take c.args.need (drop c.args.first (plan_sectors g plan))) c.geometry-g.ensures.value
    (both_passes (sectors_of h (parts_met h plan.id Rattle.std.proofs.Common.true parts)) (sectors_of h (parts_met h plan.id Rattle.std.proofs.Common.false parts)) (sectors_in c.push_met-2.new.place.items)
    (sectors_in c.push_met.new.place.items) (sectors_in c.new-place.result.items) (record { skip = c.args.first; need = c.args.need }) c.in_ok-left.left (ap sectors_in c.new-place.ensures.items)
    c.in_ok-left.ensures.sectors c.in_ok-left.ensures.left c.in_ok-push_met.ensures.sectors)
