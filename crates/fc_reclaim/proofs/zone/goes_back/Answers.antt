use Rattle.std.proofs.Common.{ap, ◌∙◌}
use Rattle.fc_record.specs.declared.Geometry.{Geometry}
use Rattle.fc_newmap.specs.Map.{extent_of, map_sectors}
use Rattle.fc_space.proofs.GeometryLemmas.{extent_fits}
use Rattle.fc_reclaim.specs.Lost.{boot_row}
use Rattle.fc_reclaim.proofs.ReclaimedLemmas.{goes_lost}
use Rattle.fc_reclaim.proofs.zone.goes_back.Goals as goal

pub meet-of_map-requires-clause-a : goal.meet-of_map-requires-clause-a
meet-of_map-requires-clause-a c =
    extent_fits c.args.map.now.geometry (c.args.z, c.args.run) _ c.geometry-g.ensures.map.of_record c.requires.run (c.extent_of-place.ensures ∙ ap (λ (g : Geometry). extent_of g (c.args.z, c.args.run)) c.geometry-g.ensures.value)

pub meet-of_boot-requires-clause-a : goal.meet-of_boot-requires-clause-a
meet-of_boot-requires-clause-a c =
    extent_fits c.args.map.now.geometry (c.args.z, c.args.run) _ c.geometry-g.ensures.map.of_record c.requires.run (c.extent_of-place.ensures ∙ ap (λ (g : Geometry). extent_of g (c.args.z, c.args.run)) c.geometry-g.ensures.value)

pub returns-then-not-of_map : goal.returns-then-not-of_map
returns-then-not-of_map c =
    let same = c.geometry-g.ensures.value in
    goes_lost c.args.boot c.args.owners.now c.args.map.now.geometry c.args.z c.args.run c.in-Id.id c.extent_of-place.result c.map_row.result c.boot_row.result c.meet-of_map.result c.meet-of_boot.result c.is_lost.result
    c.in-Id.is (c.extent_of-place.ensures ∙ ap (λ (g : Geometry). extent_of g (c.args.z, c.args.run)) same) (c.map_row.ensures.sectors ∙ ap map_sectors same)
    (c.boot_row.ensures.sectors ∙ ap (λ (g : Geometry). boot_row c.args.boot g.sector) same) c.is_lost.ensures c.if-not-of_map.true.0 c.meet-of_map.ensures c.if-not-of_map.true.1 c.meet-of_boot.ensures
