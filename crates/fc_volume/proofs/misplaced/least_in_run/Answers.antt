use Rattle.std.proofs.Common.{ap, sym, ◌∙◌}
use Rattle.fc_record.specs.declared.Geometry.{Geometry}
use Rattle.fc_newmap.specs.Map.{extent_of}
use Rattle.fc_space.proofs.GeometryLemmas.{extent_fits}
use Rattle.fc_volume.proofs.MisplacedLemmas.{in_run}
use Rattle.fc_volume.proofs.misplaced.least_in_run.Goals as goal

pub first_common-requires-clause-a : goal.first_common-requires-clause-a
first_common-requires-clause-a c =
    extent_fits c.args.map.now.geometry (c.args.z, c.args.run) _ c.geometry.ensures.map.of_record c.requires.run (c.extent_of-place.ensures ∙ ap (λ (g : Geometry). extent_of g (c.args.z, c.args.run)) c.geometry.ensures.value)

pub first_common-requires-2-clause-a : goal.first_common-requires-2-clause-a
first_common-requires-2-clause-a c =
    extent_fits c.args.map.now.geometry (c.args.z, c.args.run) _ c.geometry.ensures.map.of_record c.requires.run (c.extent_of-place.ensures ∙ ap (λ (g : Geometry). extent_of g (c.args.z, c.args.run)) c.geometry.ensures.value)

pub returns : goal.returns
returns c =
    in_run c.args.owners.now c.args.map.now.geometry c.args.rows.0 c.args.rows.1 c.extent_of-place.result (c.args.z, c.args.run) c.lesser.result
    (c.extent_of-place.ensures ∙ ap (λ (g : Geometry). extent_of g (c.args.z, c.args.run)) c.geometry.ensures.value)
    (sym c.is_loose.ensures ∙ c.if-not-is_loose.false)
    (c.lesser.ensures _ _ c.first_common.ensures c.first_common-2.ensures)
