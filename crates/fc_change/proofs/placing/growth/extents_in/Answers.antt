use Rattle.std.proofs.Common.{◌≡◌, ◌++◌, ◌∙◌, [], false, ℕ, ap, ap₂, subst, take}
use Rattle.std.specs.Int.{div_ceil}
use Rattle.fc_objects.specs.Extents.{sectors_in}
use Rattle.fc_record.specs.declared.Geometry.{Geometry}
use Rattle.fc_newmap.specs.Map.{sectors_of}
use Rattle.fc_plan.specs.Parts.{fronts}
use Rattle.fc_placing.specs.Extents.{parts_met}
use Rattle.fc_change.specs.GrownSpace.{place_of_plan}
use Rattle.fc_change.proofs.PlanLemmas.{both_passes}
use Rattle.fc_change.proofs.placing.growth.extents_in.Goals as goal

pub returns : goal.returns
returns c =
    let plan = c.args.plan.now in
    let h = c.geometry-g.result.now in
    let none : sectors_in c.new-place.result.items ≡ [] = ap sectors_in c.new-place.ensures.items in
    subst (λ (g : Geometry). sectors_in c.push_met-2.new.place.items ≡ place_of_plan g plan c.args.bytes) c.geometry-g.ensures.value
    (both_passes h plan c.div_ceil-need.result c.args.bytes (sectors_in c.push_met-2.new.place.items) (sectors_in c.push_met.new.place.items) (sectors_in c.new-place.result.items)
    (c.div_ceil-need.ensures ∙ ap₂ div_ceil c.from.ensures c.from-2.ensures) none c.in_ok-left.ensures.sectors
    (c.in_ok-push_met.ensures.sectors ∙ ap (λ (n : ℕ). sectors_in c.push_met.new.place.items ++ take n (sectors_of h (parts_met h plan.id false (fronts plan.parts.items)))) c.in_ok-left.ensures.left))
