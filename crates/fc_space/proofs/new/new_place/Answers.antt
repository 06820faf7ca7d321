use Rattle.std.proofs.Common.{◌∙◌, ap}
use Rattle.std.proofs.lemmas.Result.{IfOk-weaker}
use Rattle.fc_image.specs.Layout.{Layout}
use Rattle.fc_objects.specs.Extents.{sectors_in}
use Rattle.fc_space.specs.Space.{Suffice}
use Rattle.fc_space.proofs.DiscLemmas.{part_suffices}
use Rattle.fc_space.proofs.new.new_place.Goals as goal

pub returns-clause-suffice : goal.returns-clause-suffice
returns-clause-suffice c =
    IfOk-weaker c.sectors_of_id.result _ (λ place. Suffice (Layout.New c.args.map.now) c.args.bytes (sectors_in place.items))
    (λ place h. part_suffices c.args.map.now c.geometry.ensures.map _ _ _ c.from.result c.args.bytes (sectors_in place.items) c.div_ceil-need.ensures
    (c.from.ensures ∙ ap (λ g. g.sector) c.geometry.ensures.value) h)
    c.sectors_of_id.ensures.place
