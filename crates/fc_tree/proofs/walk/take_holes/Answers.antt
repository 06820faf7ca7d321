use Rattle.std.proofs.Common.{◌∙◌, ◌≡◌, ◌++◌, ◌+◌, ◌∷◌, [], List, ℕ, sym, arith, ap, ap₂, subst, take, get_or, append-nil}
use Rattle.std.specs.List.{flat_map}
use Rattle.std.proofs.lemmas.List.{take_all, take_more}
use Rattle.std.proofs.lemmas.Grind.{flat_map-append}
use Rattle.fc_device.specs.declared.disk.Extent.{Extent}
use Rattle.fc_oldmap.specs.declared.Hole.{Hole}
use Rattle.fc_objects.specs.Extents.{extent_sectors}
use Rattle.fc_image.specs.Layout.{hole_sectors_in}
use Rattle.fc_tree.specs.Taken.{AreTaken}
use Rattle.fc_tree.proofs.TakenLemmas.{taken_more}
use Rattle.fc_tree.proofs.walk.take_holes.Goals as goal

pub loop-hole-preserved : goal.loop-hole-preserved
loop-hole-preserved c =
    let i = c.loop-hole.invariant in
    let units = c.sector_units-units.result in
    let holes = c.holes-hole-items.result.now in
    let h : Hole = get_or holes c.loop-hole.hole-index (record { start = 0; len = 0 }) in
    let extent : Extent = record { first = c.from.result; sectors = c.from-in-loop-hole.result } in
    let one : extent_sectors extent ≡ hole_sectors_in units h = ap₂ (λ (a b : ℕ). extent_sectors (record { first = a; sectors = b })) c.from.ensures c.from-in-loop-hole.ensures in
    let more : flat_map (hole_sectors_in units) (take (c.loop-hole.hole-index + 1) holes) ≡ flat_map (hole_sectors_in units) (take c.loop-hole.hole-index holes) ++ extent_sectors extent =
    ap (flat_map (hole_sectors_in units)) (take_more holes c.loop-hole.hole-index (record { start = 0; len = 0 }) c.loop-hole-test.true)
    ∙ flat_map-append (hole_sectors_in units) (take c.loop-hole.hole-index holes) (h ∷ [])
    ∙ ap (λ (xs : List ℕ). flat_map (hole_sectors_in units) (take c.loop-hole.hole-index holes) ++ xs) (append-nil (hole_sectors_in units h) ∙ sym one) in
    record {
      sectors = c.take_extent.ensures.sectors ∙ i.sectors;
      taken = λ before t. taken_more c.take_extent.new.self (extent_sectors extent) _ _ before more (c.take_extent.ensures.taken _ (i.taken before t));
    }

pub returns-clause-taken : goal.returns-clause-taken
returns-clause-taken c = λ before t.
    let holes = c.holes-hole-items.result.now in
    subst (λ (xs : List ℕ). AreTaken c.loop-hole.taken (xs ++ before))
    (ap₂ (λ (u : ℕ) (hs : List Hole). flat_map (hole_sectors_in u) hs) c.sector_units-units.ensures.value
    (take_all c.loop-hole.hole-index holes (omega (arith, c.loop-hole-test.false)) ∙ c.holes-hole-items.ensures.holes))
    (c.loop-hole.invariant.taken before t)
