use Rattle.std.proofs.Common.{sym, ap, subst, ◌∙◌, arith}
use Rattle.fc_record.specs.declared.Geometry.{Geometry}
use Rattle.fc_image.specs.Layout.{Layout}
use Rattle.fc_image.specs.Opening.{boot_place, misplaced_sector}
use Rattle.fc_space.specs.Space.{layout_of}
use Rattle.fc_tree.specs.Parts.{AreOwners}
use Rattle.fc_volume.proofs.MisplacedLemmas.{sector_least, misplaced_is}
use Rattle.fc_volume.proofs.misplaced.misplaced_sector.Goals as goal

pub boot_row-boot-requires : goal.boot_row-boot-requires
boot_row-boot-requires c = let least = sector_least _ c.geometry.ensures.map.of_record in omega (arith, least, ap (λ (g : Geometry). g.sector) c.geometry.ensures.value, c.from.ensures)

pub returns-in-NewMapped : goal.returns-in-NewMapped
returns-in-NewMapped c = λ nodes objects owned.
    let sector = c.from.ensures ∙ ap (λ (g : Geometry). g.sector) c.geometry.ensures.value in
    let layout = ap layout_of c.in-NewMapped.is in
    let here = subst (λ (l : Layout). AreOwners c.args.owners.now nodes l objects) layout owned in
    misplaced_is c.args.owners.now nodes (Layout.New c.in-NewMapped.map) objects here c.args.kind.now c.in-NewMapped.map c.map_row.result c.boot_row-boot.result c.least_misplaced.result
    c.map_row.ensures.sectors (c.boot_row-boot.ensures.sectors ∙ ap (boot_place c.args.kind.now) sector) c.least_misplaced.ensures
    ∙ ap (λ (l : Layout). misplaced_sector c.args.kind.now l objects) (sym layout)
