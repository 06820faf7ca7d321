use Rattle.std.proofs.Common.{◌≡◌, ◌/◌, List, ℕ, Some, drop, sym, ap, ◌∙◌}
use Rattle.std.proofs.lemmas.Result.{IfOk-weaker}
use Rattle.std.specs.Int.{div_ceil}
use Rattle.fc_image.specs.Layout.{Layout, first_part, new_sectors}
use Rattle.fc_objects.specs.Extents.{sectors_in}
use Rattle.fc_space.specs.Space.{Suffice}
use Rattle.fc_space.proofs.DiscLemmas.{part_suffices}
use Rattle.fc_space.proofs.IndexedLemmas.{id_sectors_by, rows_low, sectors_by}
use Rattle.fc_space.proofs.indexed.indexed_place.Goals as goal

pub sectors_of_rows-requires : goal.sectors_of_rows-requires
sectors_of_rows-requires c = rows_low c.args.map.now c.args.rows.now c.rows_of.result.now (c.args.address / 256) c.requires c.rows_of.ensures

pub returns-clause-place : goal.returns-clause-place
returns-clause-place c =
    let m = c.args.map.now in
    let all = id_sectors_by m c.args.rows.now c.rows_of.result.now (c.args.address / 256) c.requires c.rows_of.ensures in
    let need = c.div_ceil-need.ensures ∙ ap (div_ceil c.args.bytes) (c.from.ensures ∙ ap (λ g. g.sector) c.geometry.ensures.value) in
    IfOk-weaker c.sectors_of_rows.result _ (λ place. new_sectors m c.args.address c.args.bytes ≡ Some (sectors_in place.items))
    (λ place h. sectors_by m c.args.address c.args.bytes c.low_start-skip.result c.div_ceil-need.result (sym c.is_object_id.ensures ∙ c.if-not-is_object_id.false) c.low_start-skip.ensures.value need _ all ∙ h)
    c.sectors_of_rows.ensures.place

pub returns-clause-suffice : goal.returns-clause-suffice
returns-clause-suffice c =
    let m = c.args.map.now in
    let all = id_sectors_by m c.args.rows.now c.rows_of.result.now (c.args.address / 256) c.requires c.rows_of.ensures in
    IfOk-weaker c.sectors_of_rows.result _ (λ place. Suffice (Layout.New m) c.args.bytes (sectors_in place.items))
    (λ place h. part_suffices m c.geometry.ensures.map (c.args.address / 256) c.low_start-skip.result c.div_ceil-need.result c.from.result c.args.bytes (sectors_in place.items) c.div_ceil-need.ensures
    (c.from.ensures ∙ ap (λ g. g.sector) c.geometry.ensures.value) (ap (λ (s : List ℕ). first_part c.div_ceil-need.result (drop c.low_start-skip.result s)) (sym all) ∙ h))
    c.sectors_of_rows.ensures.place

pub returns-clause-outside : goal.returns-clause-outside
returns-clause-outside c = λ is.
    let m = c.args.map.now in
    let all = id_sectors_by m c.args.rows.now c.rows_of.result.now (c.args.address / 256) c.requires c.rows_of.ensures in
    let need = c.div_ceil-need.ensures ∙ ap (div_ceil c.args.bytes) (c.from.ensures ∙ ap (λ g. g.sector) c.geometry.ensures.value) in
    sectors_by m c.args.address c.args.bytes c.low_start-skip.result c.div_ceil-need.result (sym c.is_object_id.ensures ∙ c.if-not-is_object_id.false) c.low_start-skip.ensures.value need _ all
    ∙ c.sectors_of_rows.ensures.outside is
