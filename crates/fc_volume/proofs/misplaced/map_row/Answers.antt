use Rattle.std.proofs.Common.{ap, arith}
use Rattle.fc_record.specs.declared.Geometry.{Geometry}
use Rattle.fc_volume.proofs.MisplacedLemmas.{row_low}
use Rattle.fc_volume.proofs.misplaced.map_row.Goals as goal

pub returns-clause-low : goal.returns-clause-low
returns-clause-low c =
    let low = row_low c.args.map.now c.geometry-g.ensures.map in
    let first = ap (λ (g : Geometry). g.map_sector) c.geometry-g.ensures.value in
    let zones = ap (λ (g : Geometry). g.zones) c.geometry-g.ensures.value in
    omega (arith, low, first, zones, c.from.ensures)
